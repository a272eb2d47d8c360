use Rattle.std.proofs.Common.{◌∙◌}
use Rattle.dms_wire_ber.specs.NameReading.{sub_identifiers_after}
use Rattle.dms_wire_ber.specs.NameOrder.{numbers_cmp}
use Rattle.dms_wire_ber.proofs.BelowDms.{fits_below, order_below}
use Rattle.dms_wire_ber.proofs.NameWalk.{fits, same_order}
use Rattle.dms_wire_ber.proofs.object_identifier.oid_cmp.Goals as goal

pub sub_identifiers_cmp-requires-clause-left : goal.sub_identifiers_cmp-requires-clause-left
sub_identifiers_cmp-requires-clause-left c = fits_below c.a.inside.content.now c.in-Some.left.now c.a.invariant c.in-Some.ensures.some

pub sub_identifiers_cmp-requires-clause-right : goal.sub_identifiers_cmp-requires-clause-right
sub_identifiers_cmp-requires-clause-right c =
    fits_below c.b.inside.content.now c.in-Some-below_dms.right.now c.b.invariant c.in-Some-below_dms.ensures.some

pub returns-in-Some-below_dms : goal.returns-in-Some-below_dms
returns-in-Some-below_dms c =
    c.sub_identifiers_cmp.ensures
    ∙ order_below c.a.inside.content.now c.b.inside.content.now c.in-Some.left.now c.in-Some-below_dms.right.now c.in-Some.ensures.some c.in-Some-below_dms.ensures.some
    ∙ same_order (sub_identifiers_after 0 c.a.inside.content.now) (sub_identifiers_after 0 c.b.inside.content.now)
    ∙ (λ i. numbers_cmp (c.a.view_is i) (c.b.view_is i))

pub sub_identifiers_cmp-requires-2-clause-left : goal.sub_identifiers_cmp-requires-2-clause-left
sub_identifiers_cmp-requires-2-clause-left c = fits c.a.inside.content.now 0 0 c.a.invariant

pub sub_identifiers_cmp-requires-2-clause-right : goal.sub_identifiers_cmp-requires-2-clause-right
sub_identifiers_cmp-requires-2-clause-right c = fits c.b.inside.content.now 0 0 c.b.invariant

pub returns : goal.returns
returns c =
    c.sub_identifiers_cmp-2.ensures
    ∙ same_order (sub_identifiers_after 0 c.a.inside.content.now) (sub_identifiers_after 0 c.b.inside.content.now)
    ∙ (λ i. numbers_cmp (c.a.view_is i) (c.b.view_is i))
