use Rattle.std.proofs.Common.{◌∙◌, Option, IfSome, sym, subst}
use Rattle.dms_codes.specs.declared.codes.Order.{Order}
use Rattle.wisangub_c.specs.CentreStates.{IsRefusedAt}
use Rattle.wisangub_c.proofs.CentreFaults.{refused_at}
use Rattle.wisangub_c.proofs.centre_state_calls.wisangub_centre_restore_at.Goals as goal

pub returns-in-Err-clause-first : goal.returns-in-Err-clause-first
returns-in-Err-clause-first c = λ refused.
    subst
    (λ (found : Option Order). IfSome found (λ which. IsRefusedAt (record { community = c.args.community.now; order = which }) c.args.state.now c.fault_answer.new.line))
    (sym c.in-Some.is ∙ c.order_of.ensures)
    (refused_at (record { community = c.args.community.now; order = c.in-Some.order }) c.args.state.now c.in-Err.fault c.fault_answer.new.line c.args.line.now c.fault_answer.result
    c.fault_answer.ensures.answer c.fault_answer.ensures.line c.in-Err.ensures.first c.in-Err.ensures.wrong refused)
