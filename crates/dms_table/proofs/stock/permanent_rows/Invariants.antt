use Rattle.std.proofs.Common.{◌≡◌, All, map, take}
use Rattle.dms_table.specs.Stock.{permanent_row, HasOctets}
use Rattle.dms_table.proofs.stock.permanent_rows.Given as goal

abbrev pub invariant-loop-message : goal.invariant-loop-message
invariant-loop-message l = record {
  rows : l.rows.items ≡ map permanent_row (take l.message-index l.messages);
  octets : All HasOctets l.rows.items;
}
