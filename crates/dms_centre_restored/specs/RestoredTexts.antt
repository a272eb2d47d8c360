-- What is told where a central system does not go on from a text, and what is printed (this profile).
use Rattle.std.specs.Prelude.{ℕ, List, ◌++◌, codes, decimal, Option, None, Some}
use Rattle.dms_centre.specs.Texts.{centre_fault_text}
use Rattle.dms_centre_restored.specs.declared.refusal.CentreStateField.{CentreStateField}
use Rattle.dms_centre_restored.specs.declared.refusal.CentreStateField.TheVariants as fields
use Rattle.dms_centre_restored.specs.declared.refusal.CentreStateFault.{CentreStateFault}
use Rattle.dms_centre_restored.specs.declared.refusal.CentreStateRefusal.{CentreStateRefusal}
use Rattle.dms_centre_restored.specs.declared.refusal.CentreStateRefusal.TheVariants as refusals
use Rattle.dms_centre_restored.specs.declared.refusal.CentreRestoreFault.{CentreRestoreFault}
use Rattle.dms_centre_restored.specs.declared.refusal.CentreRestoreFault.TheVariants as faults

-- the line that is refused
abbrev pub refused_line : CentreStateRefusal → Option ℕ
refused_line refusals.Memory = None
refused_line (refusals.Fault fault) = Some fault.line

-- what a line is to be
abbrev pub field_text : CentreStateField → List ℕ
field_text fields.Form = codes "state 1 centre"
field_text fields.Next = codes "next and a number to 4294967295"
field_text fields.Last = codes "last and how a job ended"
field_text fields.Phase = codes "idle, awaits or due"
field_text fields.PhaseWithoutRequest = codes "idle or due"
field_text fields.Sends = codes "sends and a number from 1 to 3"
field_text fields.Ticks = codes "ticks and a number to 2"
field_text fields.Step = codes "step and a number from 1 to 8"
field_text fields.StepOfTick = codes "step and 5 or 7"
field_text fields.Polls = codes "polls and a number to 9"
field_text fields.Publication = codes "publish and a command"
field_text fields.Activation = codes "activate and a code"
field_text (fields.Entry least most) =
    codes "ledger and an entry of a number from " ++ decimal least ++ codes " to " ++ decimal most
field_text fields.End = codes "end and nothing after it"
field_text fields.Spelling = codes "the line of the state that was read"

abbrev pub fault_text : CentreStateFault → List ℕ
fault_text fault = codes "line " ++ decimal fault.line ++ codes ": " ++ field_text fault.wanted ++ codes " wanted"

abbrev pub refusal_text : CentreStateRefusal → List ℕ
refusal_text refusals.Memory = codes "no memory"
refusal_text (refusals.Fault fault) = fault_text fault

abbrev pub restore_fault_text : CentreRestoreFault → List ℕ
restore_fault_text (faults.Settings fault) = centre_fault_text fault
restore_fault_text (faults.State refusal) = refusal_text refusal
