-- The line of a call read from its beginning (this profile).
use Rattle.std.specs.Prelude.{ℕ, Bool, true, false, if◌then◌else◌, List, codes, Option, Some, None, option_map}
use Rattle.dms_text.specs.Words.{words_of}
use Rattle.dms_text.specs.Reading.{same_octets, word_at, keyword_at, is_end, ◌>>=◌}
use Rattle.dms_codes.specs.declared.codes.Order.{Order}
use Rattle.dms_text_forms.specs.FieldsReading.{if_last, last_octets_at}
use Rattle.dms_centre_text.specs.CommandReading as commands
use Rattle.dms_centre_text.specs.declared.command_word.CommandWord.{CommandWord}
use Rattle.dms_centre_lines.specs.Calls.{CentreCall, command, datagram, tick, restart, status, status_last, save}
use Rattle.dms_centre_lines.specs.declared.keyword.CentreKeyword.{CentreKeyword}
use Rattle.dms_centre_lines.specs.declared.keyword.CentreKeyword.TheVariants as key

-- ---- keywords

abbrev pub own_keyword : List ℕ → Option CentreKeyword
own_keyword word =
    if same_octets word (codes "datagram") then Some key.Datagram
    else if same_octets word (codes "tick") then Some key.Tick
    else if same_octets word (codes "restart") then Some key.Restart
    else if same_octets word (codes "status") then Some key.Status
    else if same_octets word (codes "save") then Some key.Save
    else None

abbrev pub if_command : Option CommandWord → List ℕ → Option CentreKeyword
if_command (Some asked) word = Some (key.Command asked)
if_command None word = own_keyword word

-- a command's word, or another one of a line to a central system
unfoldable pub keyword_of : List ℕ → Option CentreKeyword
keyword_of word = if_command (commands.command_word word) word

-- ---- calls

-- `last`, and nothing after it
unfoldable pub last_alone_at : List (List ℕ) → Option CentreCall
last_alone_at words = do
  rest ← keyword_at (codes "last") words
  if_last status_last rest

-- what stands after `status`: nothing, or `last`
abbrev pub status_after : List (List ℕ) → Option CentreCall
status_after words = if is_end words then Some status else last_alone_at words

-- what stands after a keyword
abbrev pub call_after : Order → CentreKeyword → List (List ℕ) → Option CentreCall
call_after order (key.Command asked) words = option_map command (commands.command_after order asked words)
call_after order key.Datagram words = option_map datagram (last_octets_at words)
call_after order key.Tick words = if_last tick words
call_after order key.Restart words = if_last restart words
call_after order key.Status words = status_after words
call_after order key.Save words = if_last save words

-- The call that a line spells; a code is in this order. A carriage return at its end belongs to its last word.
unfoldable pub call_of : Order → List ℕ → Option CentreCall
call_of order line = do
  found ← word_at (words_of line)
  keyword ← keyword_of found.0
  call_after order keyword found.1

-- the call has octets that are kept: a message's, or a datagram's
abbrev pub has_octets : Option CentreCall → Bool
has_octets None = false
has_octets (Some (command asked)) = commands.has_octets (Some asked)
has_octets (Some (datagram octets)) = true
has_octets (Some tick) = false
has_octets (Some restart) = false
has_octets (Some status) = false
has_octets (Some status_last) = false
has_octets (Some save) = false
