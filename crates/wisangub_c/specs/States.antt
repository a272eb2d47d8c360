-- A sign that is made in the state of a text, and objects to which its values are put back, as they are given to C
-- (this profile).
use Rattle.std.specs.Prelude.{◌≡◌, ℕ, ◌⊎◌, List, Option, Some, None, Ok, Err}
use Rattle.std.specs.Str.Lines.{lines}
use Rattle.dms_text.specs.Lines.{kept_lines}
use Rattle.dms_sign.specs.State.{start}
use Rattle.dms_sign_text.specs.Description.{Description, SpellsSign}
use Rattle.dms_sign_text.specs.RefusedLine.{all_numbered, IsRefusedLine, NamesLine}
use Rattle.dms_sign_text.specs.declared.fault.DescriptionFault.TheVariants as faults
use Rattle.dms_sign_restored.specs.declared.restoring.SignStateRefusal.{SignStateRefusal}
use Rattle.dms_sign_restored.specs.Restored.{IsStateRefusal}
use Rattle.dms_sign_restored.specs.RestoredTexts.{refused_line}
use Rattle.dms_wire.specs.Message.{VarBind}
use Rattle.dms_agent_state.specs.declared.fault.SetFault.{SetFault}
use Rattle.dms_agent_state.specs.ValueLines.{values_of}
use Rattle.dms_agent_state.specs.PutBack.{with_values}
use Rattle.dms_agent_watched.specs.Watched.{WatchedSign}
use Rattle.wisangub_c.specs.declared.state_calls.NoSign.{NoSign}
use Rattle.wisangub_c.specs.declared.state_calls.NoSign.TheVariants as reasons
use Rattle.wisangub_c.specs.Answers.{no_memory}

-- a text is no state of the sign, and nothing is done
abbrev pub state_refused : ℕ
state_refused = 9

-- why there is none: the description before the state, or that memory ran out
abbrev pub IsNoSign : List ℕ → List ℕ → NoSign → Type 0
IsNoSign text state (reasons.Description fault) =
    ((fault ≡ faults.Memory) ⊎ ((it : Description) → SpellsSign (kept_lines text) it → ⊥))
    × NamesLine (IsRefusedLine (all_numbered (lines text))) fault
IsNoSign text state (reasons.State refusal) =
    (it : Description) × SpellsSign (kept_lines text) it × IsStateRefusal (start it.config it.table) state refusal

-- the sign of the description is not put in the state of the text, for this line of it
abbrev pub IsRefusedAt : List ℕ → List ℕ → ℕ → Type 0
IsRefusedAt text state line =
    (it : Description) × SpellsSign (kept_lines text) it
    × ((refusal : SignStateRefusal) × IsStateRefusal (start it.config it.table) state refusal
    × (refused_line refusal ≡ Some line))

abbrev pub line_answer : Option ℕ → ℕ
line_answer None = no_memory
line_answer (Some line) = state_refused

abbrev pub refusal_answer : SignStateRefusal → ℕ
refusal_answer refusal = line_answer (refused_line refusal)

-- out of memory what is old stays
abbrev pub told_line : Option ℕ → ℕ → ℕ
told_line None old = old
told_line (Some line) old = line

abbrev pub line_after_refusal : SignStateRefusal → ℕ → ℕ
line_after_refusal refusal old = told_line (refused_line refusal) old

-- the text says some values of objects, and this is the sign to whose objects they are put back
abbrev pub ArePutBack : WatchedSign → List ℕ → WatchedSign → Type 0
ArePutBack w text after =
    (bindings : List VarBind) × (values_of text ≡ Ok bindings)
    × (after ≡ record w { agent = with_values w.agent bindings })

-- the first line behind the line `end` of a text that says no value of an object
abbrev pub IsSetLine : List ℕ → ℕ → Type 0
IsSetLine text line = (fault : SetFault) × (values_of text ≡ Err fault) × (fault.line ≡ line)
