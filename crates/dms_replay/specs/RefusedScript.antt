-- The line for which a text is refused as a script, and its number (this profile).
use Rattle.std.specs.Prelude.{ℕ, if◌then◌else◌, List, [], ◌∷◌, length, ⊤}
use Rattle.std.specs.Option.{is_some}
use Rattle.std.specs.Str.Lines.{lines}
use Rattle.dms_text.specs.Lines.{NumberedLine, kept_lines}
use Rattle.dms_codes.specs.declared.codes.Order.{Order}
use Rattle.dms_sign_text.specs.declared.reading_fault.ReplayFault.{ReplayFault}
use Rattle.dms_sign_text.specs.declared.reading_fault.ReplayFault.TheVariants as faults
use Rattle.dms_sign_text.specs.Description.{Description}
use Rattle.dms_sign_text.specs.RefusedLine.{all_numbered, first_number, last_lines, refused_number}
use Rattle.dms_text_forms.specs.Fields.{SpellsEach}
use Rattle.dms_world.specs.Event.{EventModel}
use Rattle.dms_replay.specs.EventLine.{SpellsEvent}
use Rattle.dms_replay.specs.EventReading.{event_of}
use Rattle.dms_replay.specs.Script.{NamesPrefix}

-- of these lines, those from the first on that is no event's; none, where each is
abbrev pub from_no_event : Order → List NumberedLine → List NumberedLine
from_no_event order [] = []
from_no_event order (line ∷ lines) =
    if is_some (event_of order line.octets) then from_no_event order lines else line ∷ lines

-- the number of the first of the text's last lines, so many, that is no event's
abbrev pub no_event_number : Order → ℕ → List ℕ → ℕ
no_event_number order count text =
    first_number (from_no_event order (last_lines count (all_numbered (lines text)).lines))
    (all_numbered (lines text)).after

-- the line of this number is the one for which the text is no script
pub data IsRefusedIn (text : List ℕ) : ℕ → Type 0 where
  -- its first lines name no sign
  no_sign : ((sign : Description) (rest : List (List ℕ)) → NamesPrefix (kept_lines text) rest sign → ⊥)
      → IsRefusedIn text (refused_number (all_numbered (lines text)))
  -- not each line after the sign is an event's, and it is the first of them that is none
  no_event : (sign : Description) (rest : List (List ℕ)) → NamesPrefix (kept_lines text) rest sign
      → ((events : List EventModel) → SpellsEach (SpellsEvent sign.table.order) events rest → ⊥)
      → IsRefusedIn text (no_event_number sign.table.order (length rest) text)

-- a line that the fault names is such a line
abbrev pub NamesLine : (ℕ → Type 0) → ReplayFault → Type 0
NamesLine IsIt (faults.Line number) = IsIt number
NamesLine IsIt faults.Read = ⊤
NamesLine IsIt faults.Write = ⊤
NamesLine IsIt faults.TooLong = ⊤
NamesLine IsIt faults.Memory = ⊤
