-- What the lines of objects say in the text of an agent's state: each is `set NAME VALUE`, in the words of the live
-- line `objects` (this profile).
use Rattle.std.specs.Prelude.{ℕ, ◌+◌, ◌==◌, if◌then◌else◌, List, [], ◌∷◌, codes, count_by}
use Rattle.std.specs.Prelude.{Option, Some, None, Result, Ok, Err}
use Rattle.std.specs.Str.{byte}
use Rattle.dms_wire.specs.Message.{ObjectValue, VarBind}
use Rattle.dms_text.specs.Words.{parts_of, words_of}
use Rattle.dms_text.specs.Reading.{word_at, keyword_at, is_end}
use Rattle.dms_text_values.specs.NameReading.{name_of}
use Rattle.dms_text_values.specs.ValueReading.{value_at}
use Rattle.dms_agent_state.specs.declared.fault.SetCause.{SetCause}
use Rattle.dms_agent_state.specs.declared.fault.SetCause.TheVariants as causes
use Rattle.dms_agent_state.specs.declared.fault.SetFault.{SetFault}
use Rattle.dms_agent_state.specs.Parts.{sign_part, objects_part}

-- ---- a line without its newline: the name and the value that it says, or the first thing that is not there

abbrev pub with_value : List ℕ → Option (ObjectValue × List (List ℕ)) → Result VarBind SetCause
with_value name None = Err causes.Value
with_value name (Some value) =
    if is_end value.1 then Ok (record { name = name; value = value.0 }) else Err causes.More

abbrev pub with_name : List (List ℕ) → Option (List ℕ) → Result VarBind SetCause
with_name words None = Err causes.Name
with_name words (Some name) = with_value name (value_at words)

abbrev pub with_word : Option (List ℕ × List (List ℕ)) → Result VarBind SetCause
with_word None = Err causes.Name
with_word (Some found) = with_name found.1 (name_of found.0)

abbrev pub behind_set : Option (List (List ℕ)) → Result VarBind SetCause
behind_set None = Err causes.Keyword
behind_set (Some words) = with_word (word_at words)

unfoldable pub set_of : List ℕ → Result VarBind SetCause
set_of line = behind_set (keyword_at (codes "set") (words_of line))

-- the same, in the line with this number
abbrev pub in_line : ℕ → Result VarBind SetCause → Result VarBind SetFault
in_line number (Ok binding) = Ok binding
in_line number (Err cause) = Err (record { line = number; cause = cause })

-- ---- all lines: what they say in their order, or the first that says nothing

abbrev pub put_before : Result VarBind SetFault → Result (List VarBind) SetFault → Result (List VarBind) SetFault
put_before (Ok binding) (Ok bindings) = Ok (binding ∷ bindings)
put_before (Ok binding) (Err fault) = Err fault
put_before (Err fault) later = Err fault

-- what stands behind the last newline is nothing
abbrev pub nothing_left : ℕ → List ℕ → Result (List VarBind) SetFault
nothing_left number [] = Ok []
nothing_left number (octet ∷ octets) = Err (record { line = number; cause = causes.Newline })

-- of parts with a newline between two, the first of which is the line with this number
abbrev pub sets_at : ℕ → List (List ℕ) → Result (List VarBind) SetFault
sets_at number [] = Ok []
sets_at number (last ∷ []) = nothing_left number last
sets_at number (line ∷ next ∷ more) = put_before (in_line number (set_of line)) (sets_at (number + 1) (next ∷ more))

-- the line after a text that ends with its line
abbrev pub line_after : List ℕ → ℕ
line_after text = count_by (λ octet. octet == byte "\n") text + 1

-- what the text of a state says of objects
abbrev pub values_of : List ℕ → Result (List VarBind) SetFault
values_of text = sets_at (line_after (sign_part text)) (parts_of (byte "\n") (objects_part text))
