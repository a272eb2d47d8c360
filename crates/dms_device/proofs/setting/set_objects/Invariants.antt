use Rattle.std.proofs.Common.{◌≡◌, ◌<◌, true}
use Rattle.dms_device.specs.Objects.{rises}
use Rattle.dms_device.specs.Setting.{written}
use Rattle.dms_device.proofs.setting.set_objects.Given as goal

abbrev pub invariant-loop-binding : goal.invariant-loop-binding
invariant-loop-binding l =
    (written l.objects.items l.rest ≡ written l.initial.objects.items l.binds) × (rises l.objects.items ≡ true) × (l.at < 64)
