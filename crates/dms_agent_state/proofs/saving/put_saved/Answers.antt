use Rattle.std.proofs.Common.{◌≡◌, ◌+◌, length, ap, ◌∙◌, arith}
use Rattle.dms_text_filling.specs.Filling.{counted}
use Rattle.dms_agent_state.specs.AgentText.{text_of_agent}
use Rattle.dms_agent_state.proofs.saving.put_saved.Goals as goal

pub returns-clause-size : goal.returns-clause-size
returns-clause-size c =
    let n = length (text_of_agent c.args.agent.now) in
    let same : 0 + n ≡ n = omega arith in
    c.put_state.ensures.octets.place ∙ ap counted same

pub returns-clause-text : goal.returns-clause-text
returns-clause-text c = c.put_state.ensures.octets.buffer
