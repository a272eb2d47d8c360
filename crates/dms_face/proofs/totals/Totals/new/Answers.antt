use Rattle.std.proofs.Common.{arith}
use Rattle.dms_face.proofs.Bools.{both}
use Rattle.dms_face.proofs.MatchLaws.{font_found, some_copied}
use Rattle.dms_face.proofs.totals.Totals.new.Goals as goal

pub unwrap-requires : goal.unwrap-requires
unwrap-requires c = grind (arith, both, font_found, some_copied)
