-- The first fault of a text, where it is read line by line. Inner words of the readers; the laws in proofs/ join it to
-- what is wrong with a text (this profile).
use Rattle.std.specs.Prelude.{◌≡◌, ℕ, ◌+◌, ◌-◌, ◌==◌, List, length, take, count_by, Option, Some, None, Result, Ok, Err}
use Rattle.std.specs.Str.{byte}
use Rattle.dms_centre_jobs.specs.Job.{SettingsModel}
use Rattle.dms_centre.specs.State.{CentreState, start}
use Rattle.dms_centre_restored.specs.declared.refusal.CentreLineLack.{CentreLineLack}
use Rattle.dms_centre_restored.specs.declared.refusal.UnreadCentreLine.{UnreadCentreLine}
use Rattle.dms_centre_restored.specs.declared.refusal.UnreadCentreLine.TheVariants as unread
use Rattle.dms_centre_restored.specs.declared.refusal.CentreStateFault.{CentreStateFault}
use Rattle.dms_centre_restored.specs.declared.refusal.CentreStateRefusal.{CentreStateRefusal}
use Rattle.dms_centre_restored.specs.declared.refusal.CentreStateRefusal.TheVariants as refusals
use Rattle.dms_centre_restored.specs.declared.refusal.CentreRestoreFault.{CentreRestoreFault}
use Rattle.dms_centre_restored.specs.declared.refusal.CentreRestoreFault.TheVariants as faults
use Rattle.dms_centre_restored.specs.JobReading.{first_lines_at}
use Rattle.dms_centre_restored.specs.StateReading.{first_number_in, taken_at}

-- what lacks in a text, with its line from 1
abbrev pub fault_of : List ℕ → CentreLineLack → CentreStateFault
fault_of text lack = record {
  line = count_by (λ octet. octet == byte "\n") (take (length text - lack.left) text) + 1;
  wanted = lack.wanted;
}

abbrev pub fault_in : List ℕ → Result CentreState CentreLineLack → Option CentreStateFault
fault_in text (Ok state) = None
fault_in text (Err lack) = Some (fault_of text lack)

-- the first fault of a text, where it is read line by line for a central system of these settings
abbrev pub first_fault : SettingsModel → List ℕ → Option CentreStateFault
first_fault settings text = fault_in text (taken_at (start settings (first_number_in (first_lines_at text))) text)

-- a fault that is told is the first one of the text
abbrev pub IsFirstTold : SettingsModel → List ℕ → CentreStateRefusal → Type 0
IsFirstTold settings text refusals.Memory = Unit {0}
IsFirstTold settings text (refusals.Fault fault) = first_fault settings text ≡ Some fault

-- the same, where the settings are good
abbrev pub IsFirstFault : SettingsModel → List ℕ → CentreRestoreFault → Type 0
IsFirstFault settings text (faults.Settings fault) = Unit {0}
IsFirstFault settings text (faults.State refusal) = IsFirstTold settings text refusal

-- what is told of a text that is not taken up
abbrev pub told_of : List ℕ → UnreadCentreLine → CentreStateRefusal
told_of text unread.Memory = refusals.Memory
told_of text (unread.Lacks lack) = refusals.Fault (fault_of text lack)
