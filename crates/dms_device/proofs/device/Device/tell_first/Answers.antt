use Rattle.std.proofs.Common.{ap, ◌∙◌}
use Rattle.dms_device.specs.Taken.{set_bindings, told_first}
use Rattle.dms_device.proofs.Telling.{others_left}
use Rattle.dms_device.proofs.device.Device.tell_first.Goals as goal

pub returns-clause-left : goal.returns-clause-left
returns-clause-left c =
    ap set_bindings (c.tell_object.ensures.done ∙ ap told_first c.self.view_is) ∙ others_left c.args.self.now
