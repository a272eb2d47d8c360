use Rattle.std.proofs.Common.{◌≡◌, true, subst}
use Rattle.dms_device.specs.Objects.{rises}
use Rattle.dms_agent_lines.proofs.SetBack.{all_lines, saved_again}
use Rattle.dms_agent_lines.proofs.laws.saved_lines_put_values_back.Goals as goal

pub returns-clause-put : goal.returns-clause-put
returns-clause-put c = λ a all alike.
    all_lines c.args.saved.now.device a (subst (λ objects. rises objects ≡ true) c.device.ensures c.in_order.ensures) all alike

pub returns-clause-text : goal.returns-clause-text
returns-clause-text c = λ a line all alike none same asks.
    saved_again c.args.saved.now a line (subst (λ objects. rises objects ≡ true) c.device.ensures c.in_order.ensures) all alike none same asks
