use Rattle.std.proofs.Common.{◌∷◌, ◌++◌, [], sym, ap, ◌∙◌, decimal, append_assoc, append-nil}
use Rattle.dms_text_filling.proofs.Parts.{same}
use Rattle.dms_agent_state.proofs.Listed.{name_more}
use Rattle.dms_agent_state.proofs.words.put_name.Goals as goal

pub loop-number-init : goal.loop-number-init
loop-number-init c =
    (sym c.in-Some.ensures.steps ∙ c.numbers-rest.ensures.walk, same (sym (append-nil (decimal c.in-Some.first))) c.put_decimal-end.ensures.octets)

pub loop-number-preserved : goal.loop-number-preserved
loop-number-preserved c = (
  ap (λ numbers. c.in-Some.first ∷ numbers)
      (append_assoc c.loop-number.yielded (c.in-Some-next.number ∷ []) c.next-in-loop-number.new.self
      ∙ ap (λ rest. c.loop-number.yielded ++ rest) (sym c.in-Some-next.ensures.steps))
      ∙ c.loop-number.invariant.0,
  name_more c.in-Some.first c.in-Some-next.number c.loop-number.yielded c.loop-number.invariant.1 c.put_dot-end.ensures,
)
