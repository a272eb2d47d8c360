use Rattle.std.proofs.Common.{take}
use Rattle.std.specs.Prelude.{option_map}
use Rattle.dms_sign_access.specs.ChangeView.{write_by}
use Rattle.dms_sign_access.specs.Slots.{AreTaken}
use Rattle.dms_sign.specs.SetView.{AreKept, StaysWithout}
use Rattle.dms_sign.proofs.Causes.{HasJudged}
use Rattle.dms_sign.proofs.sign.Sign.judged.Given as goal

abbrev pub invariant-loop-binding : goal.invariant-loop-binding
invariant-loop-binding l =
    HasJudged l.self l.may_write l.binds l.fn.settings l.index l.judged.settings l.judged.index (option_map write_by l.judged.command) l.rest
    × AreTaken l.slots (take l.index l.binds)
    × StaysWithout l.judged.fields l.self (take l.index l.binds)
    × AreKept l.kept l.index l.self (take l.index l.binds)
