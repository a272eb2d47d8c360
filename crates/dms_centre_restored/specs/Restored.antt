-- The state in which a central system goes on from a text (this profile).
use Rattle.std.specs.Prelude.{◌≡◌, ℕ, ◌+◌, ◌==◌, List, count_by, take, Bool, true, false}
use Rattle.std.specs.Str.{byte}
use Rattle.dms_centre_jobs.specs.Job.{SettingsModel}
use Rattle.dms_centre.specs.State.{CentreState}
use Rattle.dms_centre_state.specs.CentreText.{text_of_state}
use Rattle.dms_centre_state.specs.Reached.{IsReached}
use Rattle.dms_centre_restored.specs.declared.refusal.UnreadCentreLine.{UnreadCentreLine}
use Rattle.dms_centre_restored.specs.declared.refusal.UnreadCentreLine.TheVariants as unread
use Rattle.dms_centre_restored.specs.declared.refusal.CentreStateRefusal.{CentreStateRefusal}
use Rattle.dms_centre_restored.specs.declared.refusal.CentreStateRefusal.TheVariants as refusals
use Rattle.dms_centre_restored.specs.declared.refusal.CentreRestoreFault.{CentreRestoreFault}
use Rattle.dms_centre_restored.specs.declared.refusal.CentreRestoreFault.TheVariants as faults

-- the state that a central system of these settings comes to, and that has this text: there is at most one
pub record IsRestored (made_with : SettingsModel) (given : List ℕ) (state : CentreState) : Type 0 where
  pub settings : state.settings ≡ made_with
  pub text : text_of_state state ≡ given
  pub reached : IsReached state

-- no central system has these settings
abbrev pub is_of_settings : CentreRestoreFault → Bool
is_of_settings (faults.Settings fault) = true
is_of_settings (faults.State refusal) = false

-- the line of a place in a text, from 1
pub record IsLineOf (text : List ℕ) (line : ℕ) : Type 0 where
  pub place : ℕ
  pub is : line ≡ count_by (λ octet. octet == byte "\n") (take place text) + 1

-- the line that is told is one of the text, or the one behind its last newline
abbrev pub IsToldOf : List ℕ → CentreStateRefusal → Type 0
IsToldOf text refusals.Memory = Unit {0}
IsToldOf text (refusals.Fault fault) = IsLineOf text fault.line

-- the same, where the settings are good
abbrev pub IsLineFaultOf : List ℕ → CentreRestoreFault → Type 0
IsLineFaultOf text (faults.Settings fault) = Unit {0}
IsLineFaultOf text (faults.State refusal) = IsToldOf text refusal

-- no central system of these settings comes to a state of this text
abbrev pub IsOfNone : SettingsModel → List ℕ → Type 0
IsOfNone settings text = (state : CentreState) → IsRestored settings text state → ⊥

-- there is none, unless memory ran out
abbrev pub IsNoneOf : SettingsModel → List ℕ → CentreRestoreFault → Type 0
IsNoneOf settings text (faults.Settings fault) = IsOfNone settings text
IsNoneOf settings text (faults.State refusals.Memory) = Unit {0}
IsNoneOf settings text (faults.State (refusals.Fault fault)) = IsOfNone settings text

-- ---- inside the crate

-- a line that lacks is told as a fault, and want of memory as that
abbrev pub IsSaid : UnreadCentreLine → CentreStateRefusal → Type 0
IsSaid unread.Memory refusals.Memory = Unit {0}
IsSaid unread.Memory (refusals.Fault fault) = ⊥
IsSaid (unread.Lacks lack) refusals.Memory = ⊥
IsSaid (unread.Lacks lack) (refusals.Fault fault) = Unit {0}

-- what was taken up: the settings stay
pub record GoesOn (before after : CentreState) : Type 0 where
  pub settings : after.settings ≡ before.settings
  pub reached : IsReached after
