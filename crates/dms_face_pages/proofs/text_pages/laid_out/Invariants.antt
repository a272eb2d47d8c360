use Rattle.dms_face.specs.Layout.{under}
use Rattle.dms_face_pages.proofs.OneWalk.{IsLaidTo}
use Rattle.dms_face_pages.proofs.text_pages.laid_out.Given as goal

abbrev pub invariant-loop-outcome : goal.invariant-loop-outcome
invariant-loop-outcome l = IsLaidTo (under l.face l.defaults) l.text l.totals l.layout l.outcome-iterator
