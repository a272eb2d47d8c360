-- The lines to a live sign read from their beginning (this profile).
use Rattle.std.specs.Prelude.{ℕ, if◌then◌else◌, List, codes, Option, Some, None, option_map}
use Rattle.dms_text.specs.Words.{words_of}
use Rattle.dms_text.specs.Reading.{same_octets, word_at, ◌>>=◌}
use Rattle.dms_text_forms.specs.FieldsReading.{if_last, last_number_at, last_octets_at}
use Rattle.dms_sign_lines.specs.SignCall.{SignCall, datagram, tick, ticks, heard, power_lost, power_back}
use Rattle.dms_sign_lines.specs.SignCall.{show, state, save}
use Rattle.dms_sign_lines.specs.declared.keyword.SignKeyword.{SignKeyword}
use Rattle.dms_sign_lines.specs.declared.keyword.SignKeyword.TheVariants as key

-- the words that ask for what is shown, or for the state
abbrev pub asking_keyword : List ℕ → Option SignKeyword
asking_keyword word =
    if same_octets word (codes "show") then Some key.Show
    else if same_octets word (codes "state") then Some key.State
    else if same_octets word (codes "save") then Some key.Save
    else None

unfoldable pub keyword_of : List ℕ → Option SignKeyword
keyword_of word =
    if same_octets word (codes "datagram") then Some key.Datagram
    else if same_octets word (codes "tick") then Some key.Tick
    else if same_octets word (codes "ticks") then Some key.Ticks
    else if same_octets word (codes "heard") then Some key.Heard
    else if same_octets word (codes "power-lost") then Some key.PowerLost
    else if same_octets word (codes "power-back") then Some key.PowerBack
    else asking_keyword word

-- what stands after a keyword
abbrev pub call_after : SignKeyword → List (List ℕ) → Option SignCall
call_after key.Datagram words = option_map datagram (last_octets_at words)
call_after key.Tick words = if_last tick words
call_after key.Ticks words = option_map ticks (last_number_at words)
call_after key.Heard words = if_last heard words
call_after key.PowerLost words = if_last power_lost words
call_after key.PowerBack words = option_map power_back (last_number_at words)
call_after key.Show words = if_last show words
call_after key.State words = if_last state words
call_after key.Save words = if_last save words

-- the keyword of a line
unfoldable pub keyword_in : List ℕ → Option SignKeyword
keyword_in line = do
  found ← word_at (words_of line)
  keyword_of found.0

-- the call of a line
unfoldable pub call_of : List ℕ → Option SignCall
call_of line = do
  found ← word_at (words_of line)
  keyword ← keyword_of found.0
  call_after keyword found.1
