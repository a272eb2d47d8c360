use Rattle.std.proofs.Common.{ap, ◌∙◌, subst}
use Rattle.std.specs.Str.Lines.{lines}
use Rattle.dms_sign.specs.State.{SignState}
use Rattle.dms_sign_restored.specs.Restored.{IsPut}
use Rattle.dms_agent_state.specs.AgentText.{text_of_agent}
use Rattle.dms_agent_state.specs.Parts.{sign_part}
use Rattle.dms_agent_lines.specs.AgentAnswer.{answer_text, after_lines}
use Rattle.signtool_acts.proofs.laws.restored_agents_save_their_text.Goals as goal

pub returns : goal.returns
returns c described it setup a line spelled made put all alike none asks =
    let text = sign_part (text_of_agent c.args.saved.now) in
    let same = c.restored_signs_have_their_text.ensures.put it.config it.table text a.sign spelled.can_be_made
    (subst (λ (before : SignState). IsPut before text a.sign) made.sign put) in
    ap (λ octets. answer_text (after_lines a (lines octets)) line) c.saved_texts_are_cut.ensures.objects
    ∙ c.saved_lines_put_values_back.ensures.text a line all alike none (same ∙ c.saved_texts_are_cut.ensures.sign) asks
