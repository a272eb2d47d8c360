use Rattle.std.proofs.Common.{◌≡◌, ◌-◌}
use Rattle.dms_sign_state.specs.FieldReading.{rows_at}
use Rattle.dms_sign_state.proofs.RowForms.{with_front}
use Rattle.dms_sign_state.proofs.reading.rows.Given as goal

-- the rows so far, and then those that are left, are all rows
abbrev pub invariant-loop : goal.invariant-loop
invariant-loop l = with_front l.rows.items (rows_at l.stored (l.most - l.counter) l.least l.rest) ≡ rows_at l.stored l.most 1 l.text
