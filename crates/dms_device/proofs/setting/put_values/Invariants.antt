use Rattle.std.proofs.Common.{◌≡◌, true, length}
use Rattle.dms_device.specs.Objects.{rises}
use Rattle.dms_device.proofs.PutBack.{ArePutBack}
use Rattle.dms_device.proofs.setting.put_values.Given as goal

abbrev pub invariant-loop-rest : goal.invariant-loop-rest
invariant-loop-rest l = ArePutBack l.initial.objects.items l.objects.items l.values l.rest × (rises l.objects.items ≡ true)

abbrev pub decreases-loop-rest : goal.decreases-loop-rest
decreases-loop-rest l = length l.rest
