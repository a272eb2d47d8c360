use Rattle.std.proofs.Common.{◌≡◌, true, subst, ap, ◌∙◌}
use Rattle.dms_text.specs.Words.{parts_of}
use Rattle.dms_device.specs.Objects.{rises}
use Rattle.dms_agent_state.specs.AgentText.{kept_lines, text_of_agent}
use Rattle.dms_agent_state.specs.Parts.{sign_part}
use Rattle.dms_agent_state.specs.ValueLines.{line_after, sets_at}
use Rattle.dms_agent_state.proofs.CutTexts.{behind_state}
use Rattle.dms_agent_state.proofs.ValueLines.{all_read_again}
use Rattle.dms_agent_state.proofs.TakenOver.{all_put_back}
use Rattle.dms_agent_state.proofs.laws.saved_values_are_put_back.Goals as goal

pub returns-clause-said : goal.returns-clause-said
returns-clause-said c = λ all.
    let a = c.args.saved.now in
    let first = line_after (sign_part (text_of_agent a)) in
    ap (λ lines. sets_at first (parts_of 10 lines))
    (behind_state a.sign c.sign.result.now (kept_lines a.device) c.sign.ensures c.signs_are_kept.ensures.in_range)
    ∙ all_read_again first a.device all

pub returns-clause-put : goal.returns-clause-put
returns-clause-put c = λ a all alike.
    ap (λ objects. record a { device = objects })
    (all_put_back c.args.saved.now.device a.device (subst (λ objects. rises objects ≡ true) c.device.ensures c.in_order.ensures) all alike)
