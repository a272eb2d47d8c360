use Rattle.std.proofs.Common.{take}
use Rattle.dms_sign_access.specs.Slots.{AreTaken}
use Rattle.dms_device.proofs.Judging.{HasJudged}
use Rattle.dms_device.proofs.Naming.{NamedSoFar}
use Rattle.dms_device.proofs.setting.judged_own.Given as goal

abbrev pub invariant-loop-binding : goal.invariant-loop-binding
invariant-loop-binding l =
    HasJudged l.objects l.may_write l.binds l.index l.rest × AreTaken l.slots (take l.index l.binds)
    × NamedSoFar l.objects l.index l.rest l.binds
