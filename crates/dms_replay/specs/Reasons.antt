-- Why a script is refused (this profile).
use Rattle.std.specs.Prelude.{◌≡◌, ℕ, ◌==◌, if◌then◌else◌, List, [], ◌∷◌, Option, Some, None}
use Rattle.std.specs.Borrow.{Bor}
use Rattle.dms_text.specs.Lines.{NumberedLine, lines_left, kept_lines}
use Rattle.dms_text.specs.Reading.{◌>>=◌}
use Rattle.dms_sign_text_causes.specs.Texts.{cause_text}
use Rattle.dms_sign_text.specs.Causes.{first_cause}
use Rattle.dms_sign_text.specs.Description.{Description}
use Rattle.dms_replay.specs.declared.event_cause.EventCause.{EventCause}
use Rattle.dms_replay.specs.declared.reasons.ScriptCause.{ScriptCause}
use Rattle.dms_replay.specs.declared.reasons.ScriptCause.TheVariants as script
use Rattle.dms_replay.specs.EventForm.{event_cause, event_cause_text}
use Rattle.dms_replay.specs.Script.{NamesPrefix}

-- ---- lines

-- the line of this number
abbrev pub line_numbered : ℕ → List NumberedLine → Option (List ℕ)
line_numbered number [] = None
line_numbered number (line ∷ lines) = if line.number == number then Some line.octets else line_numbered number lines

abbrev pub line_found : Bor (List ℕ) → List ℕ
line_found line = line.now

-- why the line of this number is no event
abbrev pub event_cause_at : List ℕ → ℕ → Option EventCause
event_cause_at octets number = line_numbered number (lines_left (record { number = 1; text = octets })) >>= event_cause

-- ---- the whole

-- the first lines name a sign
pub record NamesASign (octets : List ℕ) : Type 0 where
  pub sign : Description
  pub rest : List (List ℕ)
  pub names : NamesPrefix (kept_lines octets) rest sign

-- what is said is the first cause of the sign's description, where the first lines name no sign, or the cause of the
-- line of this number, where they name one
abbrev pub IsCauseOf : List ℕ → ℕ → ScriptCause → Type 0
IsCauseOf octets number (script.Sign cause) = (NamesASign octets → ⊥) × (first_cause (kept_lines octets) ≡ Some cause)
IsCauseOf octets number (script.Event cause) = NamesASign octets × (event_cause_at octets number ≡ Some cause)

-- ---- words

abbrev pub script_cause_text : ScriptCause → List ℕ
script_cause_text (script.Sign cause) = cause_text cause
script_cause_text (script.Event cause) = event_cause_text cause
