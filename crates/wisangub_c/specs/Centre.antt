-- What the library answers of a central system (this profile).
use Rattle.std.specs.Prelude.{ℕ, ◌≡◌, Bool, false, List, Option, Some, None}
use Rattle.dms_centre.specs.declared.fault.CommandFault.{CommandFault}
use Rattle.dms_centre.specs.declared.fault.CommandFault.TheVariants as faults
use Rattle.dms_centre.specs.State.{CentreState, Entry}
use Rattle.dms_centre.specs.Room.{CentreModel, enters_by}
use Rattle.dms_centre_jobs.specs.Commands.{CommandModel}
use Rattle.dms_centre.specs.Commands.{commanded, refusal_of}
use Rattle.dms_centre_text.specs.CommandReading.{command_of}
use Rattle.dms_centre_lines.specs.Calls.{CentreCall, command}
use Rattle.wisangub_c_values.specs.Ledger.{ledger_entry}
use Rattle.wisangub_c_values.specs.declared.ledger_values.LedgerEntry.{LedgerEntry}
use Rattle.wisangub_c.specs.Answers.{done, no_memory, at_fault, busy, numbers_used_up, out_of_range}
use Rattle.wisangub_c.specs.Answers.{answer_of, size_of, buffer_with}

-- ---- making one

-- a central system of this state is in the place
abbrev pub IsPlaced : CentreState → Option CentreModel → Type 0
IsPlaced state place = (spare : ℕ) × (place ≡ Some (record { state = state; spare = spare }))

-- ---- commands

abbrev pub if_command : Option CommandModel → Option CentreCall
if_command None = None
if_command (Some asked) = Some (command asked)

-- the command that a line spells, as in a script
abbrev pub command_in : CentreState → List ℕ → Option CentreCall
command_in state line = if_command (command_of state.settings.order line)

-- why a command is not taken
abbrev pub refusal_answer : CommandFault → ℕ
refusal_answer faults.Busy = busy
refusal_answer faults.NumbersUsedUp = numbers_used_up
refusal_answer faults.BadCommand = out_of_range
refusal_answer faults.Memory = no_memory

abbrev pub given_command_answer : CentreState → CommandModel → Option CommandFault → ℕ
given_command_answer state asked None = answer_of (commanded state asked).sent
given_command_answer state asked (Some fault) = refusal_answer fault

abbrev pub given_command_size : CentreState → CommandModel → Option CommandFault → ℕ → ℕ
given_command_size state asked None old = size_of (commanded state asked).sent
given_command_size state asked (Some fault) old = old

abbrev pub given_command_buffer : CentreState → CommandModel → Option CommandFault → List ℕ → List ℕ
given_command_buffer state asked None buffer = buffer_with (commanded state asked).sent buffer
given_command_buffer state asked (Some fault) buffer = buffer

abbrev pub command_answer : CentreState → Option CentreCall → ℕ
command_answer state (Some (command asked)) = given_command_answer state asked (refusal_of state asked)
command_answer state call = at_fault

-- the command that a line spells makes an entry of the ledger
abbrev pub enters_by_call : CentreState → Option CentreCall → Bool
enters_by_call state (Some (command asked)) = enters_by state asked
enters_by_call state call = false

abbrev pub command_size : CentreState → Option CentreCall → ℕ → ℕ
command_size state (Some (command asked)) old = given_command_size state asked (refusal_of state asked) old
command_size state call old = old

abbrev pub command_buffer : CentreState → Option CentreCall → List ℕ → List ℕ
command_buffer state (Some (command asked)) buffer = given_command_buffer state asked (refusal_of state asked) buffer
command_buffer state call buffer = buffer

abbrev pub after_command : CentreState → Option CentreCall → CentreState
after_command state (Some (command asked)) = (commanded state asked).state
after_command state call = state

-- ---- the ledger

abbrev pub entry_answer : Option Entry → ℕ
entry_answer None = at_fault
entry_answer (Some entry) = done

abbrev pub entry_after : Option Entry → LedgerEntry → LedgerEntry
entry_after None old = old
entry_after (Some entry) old = ledger_entry entry
