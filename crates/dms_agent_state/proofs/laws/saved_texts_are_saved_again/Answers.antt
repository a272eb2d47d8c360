use Rattle.std.proofs.Common.{◌≡◌, true, ◌++◌, subst, ap, ap₂, ◌∙◌}
use Rattle.dms_sign_state.specs.StateText.{text_of_state}
use Rattle.dms_device.specs.Objects.{rises}
use Rattle.dms_agent_state.specs.AgentText.{kept_lines}
use Rattle.dms_agent_state.proofs.TakenOver.{all_put_back, same_lines}
use Rattle.dms_agent_state.proofs.laws.saved_texts_are_saved_again.Goals as goal

pub returns : goal.returns
returns c = λ a all alike none same.
    ap₂ (λ sign lines. sign ++ lines) (ap text_of_state same)
    (
    ap kept_lines
    (all_put_back c.args.saved.now.device a.device (subst (λ objects. rises objects ≡ true) c.device.ensures c.in_order.ensures) all alike)
    ∙ same_lines c.args.saved.now.device a.device alike none
    )
