use Rattle.std.proofs.Common.{◌∙◌, Option, Some, IfSome, sym, ap, subst}
use Rattle.dms_centre.specs.State.{CentreState, start}
use Rattle.dms_codes.specs.declared.codes.Order.{Order}
use Rattle.wisangub_c.specs.Centre.{IsPlaced}
use Rattle.wisangub_c.proofs.centre_calls.wisangub_centre_new_at.Goals as goal

pub returns-in-Ok-clause-made : goal.returns-in-Ok-clause-made
returns-in-Ok-clause-made c = λ _.
    subst
    (λ (found : Option Order). IfSome found (λ which. IsPlaced (start (record { community = c.args.community.now; order = which }) c.args.first) c.keep.new.self.value))
    (sym c.in-Some.is ∙ c.order_of.ensures)
    (c.in-Ok.made.value.spare, c.keep.ensures ∙ ap (λ (state : CentreState). Some (record { state = state; spare = c.in-Ok.made.value.spare })) c.in-Ok.ensures.made)
