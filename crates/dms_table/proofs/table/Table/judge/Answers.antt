use Rattle.std.proofs.Common.{sym}
use Rattle.std.proofs.lemmas.Option.{IfSome_then}
use Rattle.dms_face.specs.Layout.{under}
use Rattle.dms_table.specs.RowsView.{reading_of}
use Rattle.dms_table.proofs.KnownTexts.{named_faultless}
use Rattle.dms_table.proofs.table.Table.judge.Goals as goal

pub judge_row-requires-clause-good : goal.judge_row-requires-clause-good
judge_row-requires-clause-good c = IfSome_then c.args.good_under c.requires.good (λ known good. λ valid other.
    named_faultless (under c.args.face.now known.now) c.args.self.now c.args.shown.now c.args.code.now.id (reading_of c.in-Some.row)
    good (sym c.in-Some.ensures.read) valid other)
