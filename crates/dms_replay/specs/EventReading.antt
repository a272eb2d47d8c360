-- The lines of a script's events read from their beginning, which the calls say of themselves; `event_found` and
-- `event_only` in proofs/ join it to the lines that spell events (this profile).
use Rattle.std.specs.Prelude.{ℕ, Bool, true, false, if◌then◌else◌, List, codes, Option, Some, None, option_map}
use Rattle.dms_text.specs.Words.{words_of}
use Rattle.dms_text.specs.Reading.{same_octets, word_at, ◌>>=◌}
use Rattle.dms_codes.specs.declared.codes.Order.{Order}
use Rattle.dms_world.specs.Event.{EventModel, command, sign_tick, centre_tick, to_sign, to_centre, power_lost}
use Rattle.dms_world.specs.Event.{power_back, centre_restart, forge_sign, forge_centre}
use Rattle.dms_text_forms.specs.FieldsReading.{if_last, last_number_at, last_octets_at}
use Rattle.dms_centre_text.specs.CommandReading.{command_word, command_after}
use Rattle.dms_centre_text.specs.CommandReading as commands
use Rattle.dms_centre_text.specs.declared.command_word.CommandWord.{CommandWord}
use Rattle.dms_replay.specs.declared.keyword.EventKeyword.{EventKeyword}
use Rattle.dms_replay.specs.declared.keyword.EventKeyword.TheVariants as key

abbrev pub later_keyword : List ℕ → Option EventKeyword
later_keyword word =
    if same_octets word (codes "power-lost") then Some key.PowerLost
    else if same_octets word (codes "power-back") then Some key.PowerBack
    else if same_octets word (codes "centre-restart") then Some key.CentreRestart
    else if same_octets word (codes "forge-sign") then Some key.ForgeSign
    else if same_octets word (codes "forge-centre") then Some key.ForgeCentre
    else None

abbrev pub own_keyword : List ℕ → Option EventKeyword
own_keyword word =
    if same_octets word (codes "sign-tick") then Some key.SignTick
    else if same_octets word (codes "centre-tick") then Some key.CentreTick
    else if same_octets word (codes "to-sign") then Some key.ToSign
    else if same_octets word (codes "to-centre") then Some key.ToCentre
    else later_keyword word

abbrev pub if_command : Option CommandWord → List ℕ → Option EventKeyword
if_command (Some asked) word = Some (key.Command asked)
if_command None word = own_keyword word

-- a command's word, or another one of a script
unfoldable pub keyword_of : List ℕ → Option EventKeyword
keyword_of word = if_command (command_word word) word

-- what stands after a keyword
abbrev pub event_after : Order → EventKeyword → List (List ℕ) → Option EventModel
event_after order (key.Command asked) words = option_map command (command_after order asked words)
event_after order key.SignTick words = if_last sign_tick words
event_after order key.CentreTick words = if_last centre_tick words
event_after order key.ToSign words = option_map to_sign (last_number_at words)
event_after order key.ToCentre words = option_map to_centre (last_number_at words)
event_after order key.PowerLost words = if_last power_lost words
event_after order key.PowerBack words = option_map power_back (last_number_at words)
event_after order key.CentreRestart words = if_last centre_restart words
event_after order key.ForgeSign words = option_map forge_sign (last_octets_at words)
event_after order key.ForgeCentre words = option_map forge_centre (last_octets_at words)

-- the event of a line
unfoldable pub event_of : Order → List ℕ → Option EventModel
event_of order line = do
  found ← word_at (words_of line)
  keyword ← keyword_of found.0
  event_after order keyword found.1

-- the event has octets that are kept: a message's, or a datagram's
abbrev pub has_octets : Option EventModel → Bool
has_octets None = false
has_octets (Some (command asked)) = commands.has_octets (Some asked)
has_octets (Some sign_tick) = false
has_octets (Some centre_tick) = false
has_octets (Some (to_sign place)) = false
has_octets (Some (to_centre place)) = false
has_octets (Some power_lost) = false
has_octets (Some (power_back seconds)) = false
has_octets (Some centre_restart) = false
has_octets (Some (forge_sign datagram)) = true
has_octets (Some (forge_centre datagram)) = true
