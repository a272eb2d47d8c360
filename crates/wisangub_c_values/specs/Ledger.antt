-- The ledger of a central system and how it stands, as C gives them (this profile).
use Rattle.std.specs.Prelude.{ℕ, ℤ, pos, Bool, true, false, length}
use Rattle.dms_centre.specs.declared.outcome.Outcome.{Outcome}
use Rattle.dms_centre.specs.declared.outcome.Outcome.TheVariants as outcomes
use Rattle.dms_centre.specs.State.{CentreState, Entry, is_busy}
use Rattle.wisangub_c_values.specs.Codes.{code_parts}
use Rattle.wisangub_c_values.specs.Endings.{ended_number, ended_step, ended_why, ended_value}
use Rattle.wisangub_c_values.specs.declared.ledger_values.LedgerEntry.{LedgerEntry}
use Rattle.wisangub_c_values.specs.declared.ledger_values.CentreStatus.{CentreStatus}

-- ---- the ledger

abbrev pub outcome_number : Outcome → ℕ
outcome_number outcomes.Waiting = 0
outcome_number outcomes.Accepted = 1
outcome_number (outcomes.Refused error) = 2
outcome_number outcomes.NoReply = 3
outcome_number outcomes.Unknown = 4

-- the error-status of a refusal
abbrev pub outcome_status : Outcome → ℤ
outcome_status (outcomes.Refused error) = error
outcome_status outcome = pos 0

abbrev pub ledger_entry : Entry → LedgerEntry
ledger_entry entry = record {
  status = outcome_status entry.outcome;
  number = entry.number;
  outcome = outcome_number entry.outcome;
  code = code_parts entry.code;
}

-- ---- how it stands

abbrev pub busy_number : Bool → ℕ
busy_number true = 1
busy_number false = 0

abbrev pub centre_status : CentreState → CentreStatus
centre_status state = record {
  value = ended_value state.last;
  entries = length state.ledger;
  busy = busy_number (is_busy state.phase);
  last = ended_number state.last;
  step = ended_step state.last;
  why = ended_why state.last;
}
