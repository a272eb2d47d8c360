use Rattle.std.proofs.Common.{sym, ap, ◌∙◌}
use Rattle.dms_codes.specs.Codes.{row_id}
use Rattle.dms_table.specs.Rows.{row_read}
use Rattle.dms_table.specs.RowsView.{reading_of}
use Rattle.dms_table.proofs.ShownChecksums.{read_has_it}
use Rattle.dms_table.proofs.table.Table.put_up.Goals as goal

pub take-requires-clause-checksum : goal.take-requires-clause-checksum
take-requires-clause-checksum c =
    read_has_it c.args.self.now (row_id c.args.code.now.id) (reading_of c.in-Some.row)
    (ap (row_read c.args.self.now) (sym c.row.ensures) ∙ sym c.in-Some.ensures.read)
