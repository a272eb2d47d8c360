use Rattle.std.proofs.Common.{◌∙◌}
use Rattle.std.specs.Prelude.{nat_eq}
use Rattle.std.specs.Cmp.Lexicographic.{pointwise}
use Rattle.dms_wire_ber.proofs.Named.{same_name}
use Rattle.dms_wire_ber.proofs.object_identifier.OidPartialEq.eq.Goals as goal

pub returns : goal.returns
returns c =
    c.eq.ensures ∙ same_name c.self.inside.content.now c.other.inside.content.now c.self.invariant c.other.invariant
    ∙ (λ i. pointwise nat_eq (c.self.view_is i) (c.other.view_is i))
