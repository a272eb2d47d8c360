-- The lines to a sign and the objects beside it (this profile).
use Rattle.std.specs.Prelude.{ℕ, if◌then◌else◌, List, codes, Option, Some, None, option_map}
use Rattle.dms_wire.specs.Message.{VarBind}
use Rattle.dms_text.specs.Words.{words_of}
use Rattle.dms_text.specs.Reading.{same_octets, word_at, is_end, ◌>>=◌}
use Rattle.dms_text_forms.specs.FieldsReading.{if_last, two_octets_at, last_octets_at}
use Rattle.dms_text_values.specs.NameReading.{name_of}
use Rattle.dms_text_values.specs.ValueReading.{integer_at, value_at}
use Rattle.dms_device.specs.declared.access.ManagerAccess.{ManagerAccess}
use Rattle.dms_device.specs.declared.access.ManagerAccess.TheVariants.{ReadOnly, Number, Octets}
use Rattle.dms_agent_lines.specs.AgentCall.{AgentCall, NewObject, receive, publish, withdraw, show_fonts, tell}
use Rattle.dms_agent_lines.specs.AgentCall.{put_back, save}
use Rattle.dms_agent_lines.specs.declared.keywords.AgentKeyword.{AgentKeyword}
use Rattle.dms_agent_lines.specs.declared.keywords.AgentKeyword.TheVariants as key

-- ---- ACCESS, to the end of the line

-- an INTEGER from the first to the second
unfoldable pub number_access_at : List (List ℕ) → Option ManagerAccess
number_access_at words = do
  least ← integer_at words
  most ← integer_at least.1
  if_last (Number least.0 most.0) most.1

-- octets of which there are the first to the second
unfoldable pub octets_access_at : List (List ℕ) → Option ManagerAccess
octets_access_at words = do
  least ← two_octets_at words
  most ← two_octets_at least.1
  if_last (Octets least.0 most.0) most.1

-- after the word that says which
abbrev pub access_after : List ℕ → List (List ℕ) → Option ManagerAccess
access_after word words =
    if same_octets word (codes "number") then number_access_at words
    else if same_octets word (codes "octets") then octets_access_at words
    else None

unfoldable pub written_access_at : List (List ℕ) → Option ManagerAccess
written_access_at words = do
  found ← word_at words
  access_after found.0 found.1

-- no words: the object is read alone
abbrev pub access_at : List (List ℕ) → Option ManagerAccess
access_at words = if is_end words then Some ReadOnly else written_access_at words

-- ---- lines

-- NAME VALUE ACCESS
unfoldable pub object_at : List (List ℕ) → Option NewObject
object_at words = do
  found ← word_at words
  name ← name_of found.0
  value ← value_at found.1
  access ← access_at value.1
  Some (record { name = name; value = value.0; access = access })

-- NAME
unfoldable pub withdraw_at : List (List ℕ) → Option (List ℕ)
withdraw_at words = do
  found ← word_at words
  name ← name_of found.0
  if_last name found.1

-- NAME VALUE
unfoldable pub binding_at : List (List ℕ) → Option VarBind
binding_at words = do
  found ← word_at words
  name ← name_of found.0
  value ← value_at found.1
  if_last (record { name = name; value = value.0 }) value.1

-- the words that ask for the state, and that put values of it back
abbrev pub state_keyword : List ℕ → Option AgentKeyword
state_keyword word =
    if same_octets word (codes "set") then Some key.Set
    else if same_octets word (codes "save") then Some key.Save
    else None

unfoldable pub keyword_of : List ℕ → Option AgentKeyword
keyword_of word =
    if same_octets word (codes "datagram") then Some key.Datagram
    else if same_octets word (codes "object") then Some key.Object
    else if same_octets word (codes "no-object") then Some key.NoObject
    else if same_octets word (codes "fonts") then Some key.Fonts
    else if same_octets word (codes "objects") then Some key.Objects
    else state_keyword word

-- the keyword of a line
unfoldable pub keyword_in : List ℕ → Option AgentKeyword
keyword_in line = do
  found ← word_at (words_of line)
  keyword_of found.0

-- what stands after a keyword
abbrev pub call_after : AgentKeyword → List (List ℕ) → Option AgentCall
call_after key.Datagram words = option_map receive (last_octets_at words)
call_after key.Object words = option_map publish (object_at words)
call_after key.NoObject words = option_map withdraw (withdraw_at words)
call_after key.Fonts words = if_last show_fonts words
call_after key.Objects words = if_last tell words
call_after key.Set words = option_map put_back (binding_at words)
call_after key.Save words = if_last save words

-- the call of a line, if it is one of these
unfoldable pub call_of : List ℕ → Option AgentCall
call_of line = do
  found ← word_at (words_of line)
  keyword ← keyword_of found.0
  call_after keyword found.1
