use Rattle.std.proofs.Common.{◌≡◌, replicate}
use Rattle.dms_table.specs.Rows.{unused}
use Rattle.dms_table.proofs.table.CountedRows.unused.Given as goal

abbrev pub invariant-rows : goal.invariant-rows
invariant-rows l = l.rows.items ≡ replicate l.counter unused
