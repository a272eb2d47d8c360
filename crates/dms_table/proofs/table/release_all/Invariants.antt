use Rattle.std.proofs.Common.{◌≡◌}
use Rattle.dms_table.specs.Rows.{released}
use Rattle.dms_codes.proofs.Loops.{mapped_up_to}
use Rattle.dms_table.proofs.table.release_all.Given as goal

abbrev pub invariant-loop-row : goal.invariant-loop-row
invariant-loop-row l = l.rows ≡ mapped_up_to released l.row-index l.initial.rows
