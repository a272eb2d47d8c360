-- The state that stands before a conversation (this profile): the lines up to and with the first line `end`, behind a
-- description where there is one.
use Rattle.std.specs.Prelude.{◌≡◌, ℕ, List, [], ◌++◌, codes, decimal, Option, None, Some}
use Rattle.dms_sign.specs.State.{SignState}
use Rattle.dms_text_streams.specs.DescriptionText.{TakesDescription}
use Rattle.dms_sign_restored.specs.Restored.{IsPut, IsStateRefusal}
use Rattle.dms_sign_restored.specs.RestoredTexts.{refused_line, refusal_text}
use Rattle.dms_sign_restored.specs.declared.restoring.SignStateRefusal.{SignStateRefusal}
use Rattle.dms_sign_text.specs.ReadingFaults.{replay_fault}
use Rattle.dms_sign_text.specs.declared.reading_fault.ReplayFault.TheVariants as faults
use Rattle.signtool_calls.specs.declared.call.StateWanted.{StateWanted}
use Rattle.signtool_calls.specs.declared.call.StateWanted.TheVariants.{New, Restored}
use Rattle.signtool_acts.specs.RefusalText.{fault_line}
use Rattle.signtool_acts.specs.declared.restored.RestoreRefusal.{RestoreRefusal}
use Rattle.signtool_acts.specs.declared.restored.RestoreRefusal.TheVariants as refusals

-- the text that stands before the conversation is taken, and says the state in which this is the sign
abbrev pub PutBefore : Option (List ℕ) → SignState → SignState → Option (List ℕ) → Type 0
PutBefore before sign s after = (text : List ℕ) × TakesDescription before text after × IsPut sign text s

-- that text is taken, and this is why the sign is not put in a state that it says
abbrev pub IsRefusedState : Option (List ℕ) → SignState → SignStateRefusal → Option (List ℕ) → Type 0
IsRefusedState before sign refusal after =
    (text : List ℕ) × TakesDescription before text after × IsStateRefusal sign text refusal

-- the sign with which a conversation begins, and what is left for it
abbrev pub BeginsIn : StateWanted → Option (List ℕ) → SignState → SignState → Option (List ℕ) → Type 0
BeginsIn New before sign s after = (s ≡ sign) × (after ≡ before)
BeginsIn Restored before sign s after = PutBefore before sign s after

-- ---- what is printed where there is none

abbrev pub state_line : Option ℕ → List ℕ
state_line None = fault_line faults.Memory
state_line (Some line) = codes "state line " ++ decimal line ++ codes "\n"

-- the line of the text that is refused, or why there is no text
abbrev pub restore_line : RestoreRefusal → List ℕ
restore_line (refusals.Input fault) = fault_line (replay_fault fault)
restore_line (refusals.State refusal) = state_line (refused_line refusal)

-- and what is said of it, where memory did not run out
abbrev pub state_said : SignStateRefusal → Option ℕ → List ℕ
state_said refusal None = []
state_said refusal (Some line) = codes "state " ++ refusal_text refusal ++ codes "\n"
