use Rattle.std.proofs.Common.{arith}
use Rattle.dms_face_pages.proofs.BitLaws.{bits_without, less_without}
use Rattle.dms_face_pages.proofs.drawing.without.Goals as goal

pub returns-clause-bits : goal.returns-clause-bits
returns-clause-bits c = λ k. bits_without c.args.row c.args.column k (omega arith) c.requires

pub returns-clause-less : goal.returns-clause-less
returns-clause-less c = λ on. less_without c.args.row c.args.column c.requires on
