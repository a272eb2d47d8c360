use Rattle.dms_face.specs.Layout.{under}
use Rattle.dms_face_rows.specs.Held.{layout_of}
use Rattle.dms_face_rows.proofs.PageLaws.{Lays}
use Rattle.dms_face_rows.proofs.held.HeldPage.add_items.Given as goal

abbrev pub invariant-loop-outcome : goal.invariant-loop-outcome
invariant-loop-outcome l = Lays (under l.face l.defaults) l.text l.number (layout_of l.fn.self) l.self l.others l.outcome-iterator
