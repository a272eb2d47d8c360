use Rattle.std.proofs.Common.{◌+◌, ◌*◌, ◌≤◌, take, flat_map}
use Rattle.std.specs.List.{enumerate_from}
use Rattle.dms_table.specs.Rows.{rows_of}
use Rattle.dms_text_filling.specs.Filling.{Puts}
use Rattle.dms_sign_state.specs.StateText.{row_text}
use Rattle.dms_sign_state.proofs.saving.put_rows.Given as goal

-- the rows before this index are put
abbrev pub invariant-loop-index : goal.invariant-loop-index
invariant-loop-index l = record {
  octets : Puts (flat_map (row_text l.name) (enumerate_from 1 (take l.index (rows_of l.table l.kind)))) l.place l.initial.buffer l.end l.buffer;
  short : l.end ≤ l.place + 1315 * l.index;
}
