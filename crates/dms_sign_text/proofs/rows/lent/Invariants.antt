use Rattle.std.proofs.Common.{◌≡◌, map, take}
use Rattle.dms_table.specs.Stock.{permanent_row}
use Rattle.dms_sign_text.specs.Views.{row_seen}
use Rattle.dms_sign_text.proofs.rows.lent.Given as goal

abbrev pub invariant-loop-row : goal.invariant-loop-row
invariant-loop-row l = map permanent_row l.lent.items ≡ map row_seen (take l.row-index l.rows)
