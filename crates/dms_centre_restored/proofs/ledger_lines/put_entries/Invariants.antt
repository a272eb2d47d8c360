use Rattle.std.proofs.Common.{◌≡◌, ◌-◌, length}
use Rattle.dms_centre_restored.specs.Restored.{GoesOn}
use Rattle.dms_centre_restored.specs.StateReading.{entries_at}
use Rattle.dms_centre_restored.proofs.ledger_lines.put_entries.Given as goal

-- what was taken up so far; and with what is still taken up it is all
abbrev pub invariant-loop : goal.invariant-loop
invariant-loop l = record {
  goes : GoesOn l.initial.centre.state l.centre.state;
  read : entries_at l.order l.waits (length l.text - l.counter) l.centre.state l.least l.rest ≡ entries_at l.order l.waits (length l.text) l.initial.centre.state 0 l.text;
}
