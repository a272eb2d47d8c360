-- What is printed of a refusal (this profile).
use Rattle.std.specs.Prelude.{ℕ, Bool, true, false, List, [], ◌++◌, codes, Option, None, Some}
use Rattle.dms_sign_text.specs.FaultTexts.{replay_fault_text}
use Rattle.dms_sign_text.specs.declared.reading_fault.ReplayFault.{ReplayFault}
use Rattle.dms_sign_text.specs.declared.reading_fault.ReplayFault.TheVariants as faults
use Rattle.dms_replay.specs.Reasons.{script_cause_text}
use Rattle.dms_replay.specs.declared.reasons.ScriptCause.{ScriptCause}
use Rattle.signtool_acts.specs.declared.refusal.InputRefusal.{InputRefusal}
use Rattle.signtool_acts.specs.declared.unseen.Unseen.{Unseen}
use Rattle.signtool_acts.specs.Unseen.{unseen_text}

-- the line of the fault
abbrev pub fault_line : ReplayFault → List ℕ
fault_line fault = replay_fault_text fault ++ codes "\n"

-- what a fault is that is of no line
abbrev pub bare_line : ReplayFault → List ℕ
bare_line (faults.Line number) = []
bare_line faults.Read = codes "the standard input could not be read\n"
bare_line faults.Write = codes "the standard output could not be written\n"
bare_line faults.TooLong = codes "the standard input has more than 1048576 octets\n"
bare_line faults.Memory = codes "there is not enough memory\n"

-- what nobody sees in the line, behind why it is refused
abbrev pub unseen_words : Option Unseen → List ℕ
unseen_words None = []
unseen_words (Some unseen) = codes "; " ++ unseen_text unseen

-- why the line that the fault names is refused; of another fault what it is
abbrev pub cause_line : ReplayFault → Option ScriptCause → Option Unseen → List ℕ
cause_line fault None unseen = bare_line fault
cause_line fault (Some cause) unseen =
    replay_fault_text fault ++ (codes ": " ++ script_cause_text cause) ++ unseen_words unseen ++ codes "\n"

-- what may help where there is nothing
abbrev pub empty_line : Bool → List ℕ
empty_line false = []
empty_line true = codes "the standard input is empty: < FILE gives it one\n"

-- what is said of the line
abbrev pub said : InputRefusal → List ℕ
said refusal = cause_line refusal.fault refusal.cause refusal.unseen ++ empty_line refusal.is_empty
