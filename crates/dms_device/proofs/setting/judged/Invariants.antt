use Rattle.std.proofs.Common.{take}
use Rattle.dms_sign_access.specs.Slots.{AreTaken}
use Rattle.dms_device.proofs.Judging.{HasJudged}
use Rattle.dms_device.proofs.setting.judged.Given as goal

abbrev pub invariant-loop-binding : goal.invariant-loop-binding
invariant-loop-binding l =
    HasJudged l.objects l.may_write l.binds l.index l.rest × AreTaken l.slots (take l.index l.binds)
