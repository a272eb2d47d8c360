use Rattle.dms_face.specs.Layout.{under}
use Rattle.dms_face_times.proofs.TimeLaws.{FindsTimes}
use Rattle.dms_face_times.proofs.times.page_times.Given as goal

abbrev pub invariant-loop-outcome : goal.invariant-loop-outcome
invariant-loop-outcome l = FindsTimes (under l.face l.defaults) l.text l.pages.items l.now l.outcome-iterator
