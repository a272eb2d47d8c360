-- What the refusal of an input says: its fault, why the line that the fault names is refused, what nobody sees in that
-- line, and whether the input has nothing at all (this profile).
use Rattle.std.specs.Prelude.{◌≡◌, ℕ, ◌==◌, ◌&&◌, Bool, true, false, List, length, None, Some, Result, Ok, Err}
use Rattle.dms_sign_text.specs.Causes.{first_cause}
use Rattle.dms_sign_text.specs.ReadingFaults.{IsLine}
use Rattle.dms_sign_text.specs.declared.reading_fault.ReplayFault.{ReplayFault}
use Rattle.dms_sign_text.specs.declared.reading_fault.ReplayFault.TheVariants as faults
use Rattle.dms_replay.specs.Reasons.{IsCauseOf}
use Rattle.dms_replay.specs.declared.reasons.ScriptCause.{ScriptCause}
use Rattle.dms_replay.specs.declared.reasons.ScriptCause.TheVariants as script
use Rattle.signtool_acts.specs.declared.refusal.InputRefusal.{InputRefusal}

-- a fault, and nothing beside it
abbrev pub fault_alone : ReplayFault → InputRefusal
fault_alone fault = record { fault = fault; cause = None; unseen = None; is_empty = false }

-- what is answered, of a refusal the fault alone
abbrev pub with_fault : {A : Type 0} → Result A InputRefusal → Result A ReplayFault
with_fault (Ok answer) = Ok answer
with_fault (Err refusal) = Err refusal.fault

-- of a fault that names no line nothing more is said
abbrev pub SaysMoreOfLines : InputRefusal → Type 0
SaysMoreOfLines refusal = (IsLine refusal.fault → ⊥) → refusal ≡ fault_alone refusal.fault

abbrev pub names_line : ReplayFault → Bool
names_line faults.Read = false
names_line faults.Write = false
names_line (faults.Line number) = true
names_line faults.TooLong = false
names_line faults.Memory = false

-- whether the output failed
abbrev pub is_write : ReplayFault → Bool
is_write faults.Read = false
is_write faults.Write = true
is_write (faults.Line number) = false
is_write faults.TooLong = false
is_write faults.Memory = false

-- whether it is said that the input has nothing at all: a line is missing, and there is none
abbrev pub says_empty : ReplayFault → List ℕ → Bool
says_empty fault octets = names_line fault && (length octets == 0)

-- the first cause for which these lines are no sign's, of a fault that names a line
abbrev pub IsDescriptionCause : List (List ℕ) → ReplayFault → ScriptCause → Type 0
IsDescriptionCause lines (faults.Line number) (script.Sign cause) = first_cause lines ≡ Some cause
IsDescriptionCause lines (faults.Line number) (script.Event cause) = ⊥
IsDescriptionCause lines faults.Read cause = ⊥
IsDescriptionCause lines faults.Write cause = ⊥
IsDescriptionCause lines faults.TooLong cause = ⊥
IsDescriptionCause lines faults.Memory cause = ⊥

-- the cause of the line of a script that the fault names
abbrev pub IsScriptCause : List ℕ → ReplayFault → ScriptCause → Type 0
IsScriptCause octets (faults.Line number) cause = IsCauseOf octets number cause
IsScriptCause octets faults.Read cause = ⊥
IsScriptCause octets faults.Write cause = ⊥
IsScriptCause octets faults.TooLong cause = ⊥
IsScriptCause octets faults.Memory cause = ⊥
