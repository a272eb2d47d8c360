use Rattle.std.proofs.Common.{arith}
use Rattle.dms_face_rows.proofs.HeldLaws.{any_of}
use Rattle.dms_face_rows.proofs.held.HeldPage.has_line.Goals as goal

pub returns : goal.returns
returns c = grind (arith, any_of)
