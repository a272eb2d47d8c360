-- The state of a central system that stands before a conversation (this profile): the lines up to and with the first
-- line `end`, behind a description where there is one.
use Rattle.std.specs.Prelude.{◌≡◌, ℕ, List, [], ◌++◌, codes, Option, None, Some}
use Rattle.dms_centre_jobs.specs.Job.{SettingsModel}
use Rattle.dms_centre.specs.State.{CentreState, start}
use Rattle.dms_centre_restored.specs.Restored.{IsRestored, IsNoneOf, IsToldOf}
use Rattle.dms_centre_restored.specs.Faults.{IsWrongTold}
use Rattle.dms_centre_restored.specs.FirstFault.{IsFirstTold}
use Rattle.dms_centre_restored.specs.RestoredTexts.{refused_line, refusal_text}
use Rattle.dms_centre_restored.specs.declared.refusal.CentreStateRefusal.{CentreStateRefusal}
use Rattle.dms_centre_restored.specs.declared.refusal.CentreRestoreFault.TheVariants.{State}
use Rattle.dms_sign_text.specs.ReadingFaults.{replay_fault}
use Rattle.dms_sign_text.specs.declared.setup.Setup.{Setup}
use Rattle.dms_text_streams.specs.DescriptionText.{TakesDescription}
use Rattle.signtool_calls.specs.declared.call.StateWanted.{StateWanted}
use Rattle.signtool_calls.specs.declared.call.StateWanted.TheVariants.{New, Restored}
use Rattle.signtool_acts.specs.RefusalText.{fault_line}
use Rattle.signtool_acts.specs.RestoredBefore.{state_line}
use Rattle.signtool_acts.specs.declared.restored_centre.CentreRefusal.{CentreRefusal}
use Rattle.signtool_acts.specs.declared.restored_centre.CentreRefusal.TheVariants as refusals

-- what the central system of a sign is made with: the sign's writing community, and its order
abbrev pub settings_in : Setup → SettingsModel
settings_in setup = record { community = setup.sign.config.writer; order = setup.sign.table.order }

-- the text that stands before the conversation is taken, and is that of this state with the sign's settings
abbrev pub CentreBefore : Option (List ℕ) → Setup → CentreState → Option (List ℕ) → Type 0
CentreBefore before setup s after =
    (text : List ℕ) × TakesDescription before text after × IsRestored (settings_in setup) text s

-- That text is taken, and no central system of the settings comes to its state, or memory ran out. What is told is its
-- first fault: up to its line the text is the beginning of a state's, and with that line it is none's.
abbrev pub IsRefusedCentre : Option (List ℕ) → Setup → CentreStateRefusal → Option (List ℕ) → Type 0
IsRefusedCentre before setup refusal after =
    (text : List ℕ) × TakesDescription before text after × IsNoneOf (settings_in setup) text (State refusal)
    × IsToldOf text refusal × IsFirstTold (settings_in setup) text refusal
    × IsWrongTold (settings_in setup) text refusal

-- the central system with which a conversation begins, and what is left for it
abbrev pub CentreBegins : StateWanted → Option (List ℕ) → Setup → CentreState → Option (List ℕ) → Type 0
CentreBegins New before setup s after = (s ≡ start (settings_in setup) setup.first) × (after ≡ before)
CentreBegins Restored before setup s after = CentreBefore before setup s after

-- ---- what is printed where there is none

-- the line of the text that is refused, or why there is no text
abbrev pub centre_line : CentreRefusal → List ℕ
centre_line (refusals.Input fault) = fault_line (replay_fault fault)
centre_line (refusals.State refusal) = state_line (refused_line refusal)

-- and what is said of it, where memory did not run out
abbrev pub centre_said : CentreStateRefusal → Option ℕ → List ℕ
centre_said refusal None = []
centre_said refusal (Some line) = codes "state " ++ refusal_text refusal ++ codes "\n"
