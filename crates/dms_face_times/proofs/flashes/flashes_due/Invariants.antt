use Rattle.dms_face.specs.Layout.{under}
use Rattle.dms_face_times.specs.LetteringView.{lettering_of}
use Rattle.dms_face_times.proofs.FlashLaws.{FindsDue}
use Rattle.dms_face_times.proofs.flashes.flashes_due.Given as goal

abbrev pub invariant-loop-outcome : goal.invariant-loop-outcome
invariant-loop-outcome l = FindsDue (under l.face l.defaults) l.text l.since l.number (lettering_of l.now) l.others l.outcome-iterator l.due
