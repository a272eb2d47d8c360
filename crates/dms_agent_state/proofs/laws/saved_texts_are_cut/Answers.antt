use Rattle.dms_sign_state.specs.StateText.{text_of_state}
use Rattle.dms_agent_state.specs.AgentText.{kept_lines}
use Rattle.dms_agent_state.proofs.CutTexts.{behind_state, cut_before}
use Rattle.dms_agent_state.proofs.laws.saved_texts_are_cut.Goals as goal

pub returns-clause-sign : goal.returns-clause-sign
returns-clause-sign c =
    cut_before (text_of_state c.args.agent.now.sign) (kept_lines c.args.agent.now.device)
    (behind_state c.args.agent.now.sign c.sign.result.now (kept_lines c.args.agent.now.device) c.sign.ensures c.signs_are_kept.ensures.in_range)

pub returns-clause-objects : goal.returns-clause-objects
returns-clause-objects c =
    behind_state c.args.agent.now.sign c.sign.result.now (kept_lines c.args.agent.now.device) c.sign.ensures c.signs_are_kept.ensures.in_range
