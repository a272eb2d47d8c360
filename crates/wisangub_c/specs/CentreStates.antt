-- A central system that is made in the state of a text, as it is given to C (this profile).
use Rattle.std.specs.Prelude.{◌≡◌, ℕ, List, Option, Some, None}
use Rattle.dms_centre_jobs.specs.Job.{SettingsModel}
use Rattle.dms_centre.specs.Room.{CentreModel}
use Rattle.dms_centre_restored.specs.declared.refusal.CentreRestoreFault.{CentreRestoreFault}
use Rattle.dms_centre_restored.specs.declared.refusal.CentreRestoreFault.TheVariants as faults
use Rattle.dms_centre_restored.specs.declared.refusal.CentreStateRefusal.{CentreStateRefusal}
use Rattle.dms_centre_restored.specs.Restored.{IsRestored}
use Rattle.dms_centre_restored.specs.Faults.{IsWrongTold}
use Rattle.dms_centre_restored.specs.FirstFault.{IsFirstTold}
use Rattle.dms_centre_restored.specs.RestoredTexts.{refused_line}
use Rattle.wisangub_c.specs.Answers.{at_fault}
use Rattle.wisangub_c.specs.States.{line_answer, told_line}

-- a central system of these settings, in the state that this text says, is in the place
abbrev pub IsPlacedIn : SettingsModel → List ℕ → Option CentreModel → Type 0
IsPlacedIn settings text None = ⊥
IsPlacedIn settings text (Some centre) = IsRestored settings text centre.state

-- no central system of these settings goes on from the text, for this line of it, which is that of its first fault
abbrev pub IsRefusedAt : SettingsModel → List ℕ → ℕ → Type 0
IsRefusedAt settings text line =
    (refusal : CentreStateRefusal) × IsFirstTold settings text refusal × IsWrongTold settings text refusal
    × (refused_line refusal ≡ Some line)

abbrev pub restore_answer : CentreRestoreFault → ℕ
restore_answer (faults.Settings fault) = at_fault
restore_answer (faults.State refusal) = line_answer (refused_line refusal)

-- the line of the state that is refused; where there is none what is old stays
abbrev pub line_after_restore : CentreRestoreFault → ℕ → ℕ
line_after_restore (faults.Settings fault) old = old
line_after_restore (faults.State refusal) old = told_line (refused_line refusal) old
