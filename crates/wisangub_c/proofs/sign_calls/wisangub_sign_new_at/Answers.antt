use Rattle.std.proofs.Common.{◌≡◌, inl, inr, sym, ap, ◌∙◌, arith}
use Rattle.wisangub_c.specs.Answers.{fault_answer}
use Rattle.wisangub_c.proofs.sign_calls.wisangub_sign_new_at.Goals as goal

pub returns-in-Err-clause-fault : goal.returns-in-Err-clause-fault
returns-in-Err-clause-fault c is = elim c.in-Err.ensures.fault [
  | inl memory ↦
      let wrong : 4 ≡ 3 = sym is ∙ c.fault_answer.ensures.answer ∙ ap fault_answer memory in absurd (omega (arith, wrong))
  | inr bad ↦ bad
]
