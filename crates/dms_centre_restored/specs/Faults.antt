-- What is wrong with a text in which no central system goes on: at which line, and what is wanted there (this profile).
use Rattle.std.specs.Prelude.{◌≡◌, ℕ, ◌+◌, ◌≤◌, ◌==◌, true, false, List, [], ◌∷◌, ◌++◌, codes, count_by}
use Rattle.std.specs.List.{list_any}
use Rattle.std.specs.Str.{byte}
use Rattle.dms_codes.specs.declared.codes.Order.{Order}
use Rattle.dms_centre_jobs.specs.Job.{SettingsModel, Publishing, Showing}
use Rattle.dms_centre_jobs.specs.Steps.{step_number}
use Rattle.dms_centre_jobs.specs.Requests.{IsWork}
use Rattle.dms_centre.specs.State.{CentreState}
use Rattle.dms_centre.specs.Restoring.{is_sent_by_ticks}
use Rattle.dms_centre_state.specs.CentreText.{number_line, last_line, publish_line, work_line, ledger_line}
use Rattle.dms_centre_state.specs.Reached.{IsEntry, IsEnded}
use Rattle.dms_centre_restored.specs.declared.refusal.CentreStateField.{CentreStateField}
use Rattle.dms_centre_restored.specs.declared.refusal.CentreStateField.TheVariants as fields
use Rattle.dms_centre_restored.specs.declared.refusal.CentreStateFault.{CentreStateFault}
use Rattle.dms_centre_restored.specs.declared.refusal.CentreStateRefusal.{CentreStateRefusal}
use Rattle.dms_centre_restored.specs.declared.refusal.CentreStateRefusal.TheVariants as refusals
use Rattle.dms_centre_restored.specs.declared.refusal.CentreRestoreFault.{CentreRestoreFault}
use Rattle.dms_centre_restored.specs.declared.refusal.CentreRestoreFault.TheVariants as faults
use Rattle.dms_centre_restored.specs.Restored.{IsRestored}

-- the text of a state that a central system of these settings comes to
abbrev pub IsStateText : SettingsModel → List ℕ → Type 0
IsStateText settings text = (state : CentreState) × IsRestored settings text state

-- what is spelled so stands at the front of a text
abbrev pub Begins : {A : Type 0} → (A → List ℕ) → (A → Type 0) → List ℕ → Type 0
Begins {A} spelled Good text = (value : A) × Good value × (rest : List ℕ) × (text ≡ spelled value ++ rest)

abbrev pub NumberStands : List ℕ → ℕ → ℕ → List ℕ → Type 0
NumberStands name least most = Begins (number_line name) (λ number. (least ≤ number) × (number ≤ most))

abbrev pub LineStands : List ℕ → List ℕ → Type 0
LineStands line text = (rest : List ℕ) × (text ≡ line ++ rest)

-- What is wanted stands at the front of a text. Where a phase is wanted, a request can wait, or none can; and what was
-- read is never spelled otherwise.
abbrev pub Stands : Order → CentreStateField → List ℕ → Type 0
Stands order fields.Form text = LineStands (codes "state 1 centre\n") text
Stands order fields.Next text = NumberStands (codes "next") 0 4294967295 text
Stands order fields.Last text = Begins last_line IsEnded text
Stands order fields.Phase text = LineStands (codes "awaits\n") text
Stands order fields.PhaseWithoutRequest text = LineStands (codes "idle\n") text
Stands order fields.Sends text = NumberStands (codes "sends") 1 3 text
Stands order fields.Ticks text = NumberStands (codes "ticks") 0 2 text
Stands order fields.Step text = Begins (λ step. number_line (codes "step") (step_number step)) (λ step. Unit {0}) text
Stands order fields.StepOfTick text =
    Begins (λ step. number_line (codes "step") (step_number step)) (λ step. is_sent_by_ticks step ≡ true) text
Stands order fields.Polls text = NumberStands (codes "polls") 0 9 text
Stands order fields.Publication text = Begins publish_line (λ p. IsWork (Publishing p)) text
Stands order fields.Activation text =
    Begins (λ code. work_line order (Showing code)) (λ code. IsWork (Showing code)) text
Stands order (fields.Entry least most) text =
    Begins (ledger_line order) (λ entry. (least ≤ entry.number) × (entry.number ≤ most) × IsEntry entry) text
Stands order fields.End text = text ≡ codes "end\n"
Stands order fields.Spelling text = ⊥

-- two texts begin with the same line, and where the one ends with it, so does the other
pub record HasLineOf (other rest : List ℕ) : Type 0 where
  pub line : List ℕ
  pub more : List ℕ
  pub after : List ℕ
  pub whole : list_any (λ octet. octet == byte "\n") line ≡ false
  pub there : other ≡ line ++ byte "\n" ∷ more
  pub here : rest ≡ line ++ byte "\n" ∷ after
  pub last : more ≡ [] → after ≡ []

-- The lines before are the beginning of a state's text, which could go on with what is wanted, and no state's text goes
-- on with the line that stands there.
pub record IsWrongAt (settings : SettingsModel) (text : List ℕ) (fault : CentreStateFault) : Type 0 where
  pub before : List ℕ
  pub rest : List ℕ
  pub parts : text ≡ before ++ rest
  pub line : fault.line ≡ count_by (λ octet. octet == byte "\n") before + 1
  pub goes_on : (other : List ℕ) × Stands settings.order fault.wanted other × IsStateText settings (before ++ other)
  pub lacks : (other : List ℕ) → IsStateText settings (before ++ other) → HasLineOf other rest → ⊥

-- the fault that is told is one
abbrev pub IsWrongTold : SettingsModel → List ℕ → CentreStateRefusal → Type 0
IsWrongTold settings text refusals.Memory = Unit {0}
IsWrongTold settings text (refusals.Fault fault) = IsWrongAt settings text fault

-- the same, where the settings are good
abbrev pub IsWrong : SettingsModel → List ℕ → CentreRestoreFault → Type 0
IsWrong settings text (faults.Settings fault) = Unit {0}
IsWrong settings text (faults.State refusal) = IsWrongTold settings text refusal
