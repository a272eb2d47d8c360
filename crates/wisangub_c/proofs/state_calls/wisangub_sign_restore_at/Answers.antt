use Rattle.std.proofs.Common.{◌≡◌, inl, inr, subst, sym, ap, ◌∙◌, arith}
use Rattle.dms_agent_state.specs.Parts.{sign_part}
use Rattle.wisangub_c.specs.Answers.{fault_answer}
use Rattle.wisangub_c.specs.States.{IsNoSign}
use Rattle.wisangub_c.proofs.state_calls.wisangub_sign_restore_at.Goals as goal

pub returns-in-Err-Description-clause-fault : goal.returns-in-Err-Description-clause-fault
returns-in-Err-Description-clause-fault c is =
    let why = subst (IsNoSign c.args.text.now (sign_part c.args.state.now)) c.in-Err-Description.field-0-is c.in-Err-Description.ensures.fault in
    elim why.0 [
      | inl memory ↦
          let wrong : 4 ≡ 3 = sym is ∙ c.fault_answer.ensures.answer ∙ ap fault_answer memory in absurd (omega (arith, wrong))
      | inr bad ↦ bad
    ]
