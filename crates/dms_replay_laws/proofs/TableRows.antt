-- Rows, codes, durations and losses of power on the bench sign, computed.
use Rattle.std.proofs.Common.{◌≡◌, ℕ, List, [], ◌∷◌, ◌++◌, refl, length}
use Rattle.std.specs.Prelude.{pos, codes, replicate}
use Rattle.dms_wire.specs.declared.message.Kind.TheVariants.{Get, Response, Set}
use Rattle.dms_wire.specs.Message.{integer, octet_string, null, VarBind}
use Rattle.dms_wire.specs.Canonical.{canonical}
use Rattle.dms_mib.specs.declared.column.Column.TheVariants.{MultiString, Status}
use Rattle.dms_mib.specs.Names.{cell_name}
use Rattle.dms_world.specs.Event.{EventModel, sign_tick, power_lost, power_back}
use Rattle.dms_replay_laws.proofs.BenchWorld.{bench, after, hex, seconds, request, set_number, set_code, set_cell, sets, Seen, seen, status_and_index, errors, statuses, fills, puts_up}

-- "A" is valid in the first changeable row, with the run-time priority 200
abbrev valid_row : List EventModel
valid_row = fills 3 1 (codes "A") ++ sign_tick ∷ []

-- and is up, for five minutes
abbrev up_for_five : List EventModel
up_for_five = valid_row ++ puts_up (codes "00050a0300019a66c0000201") ∷ []

-- and is up without an end
abbrev up : List EventModel
up = valid_row ++ puts_up (codes "ffffff0300019a66c0000201") ∷ []

-- the blank message is up with this mode
abbrev blank_up : ℕ → Seen
blank_up mode = record { memory = 7; number = 1; text = []; mode = mode; minutes = 65535 }

-- "A" is up with this mode and so many minutes left
abbrev letter_up : (mode minutes : ℕ) → Seen
letter_up mode minutes = record { memory = 3; number = 1; text = codes "A"; mode = mode; minutes = minutes }

-- ---- the end of a duration

last_second : seen (after bench (up_for_five ++ seconds 299)) ≡ letter_up 8 1
unfolding after request hex
last_second = refl

over : seen (after bench (up_for_five ++ seconds 300)) ≡ blank_up 14
unfolding after request hex
over = refl

-- a duration of no minutes reads 0, and is over at the next second
no_minutes : seen (after bench (valid_row ++ puts_up (codes "0000ff0300019a66c0000201") ∷ [])) ≡ letter_up 8 0
unfolding after request hex
no_minutes = refl

no_minutes_over : seen (after bench (valid_row ++ puts_up (codes "0000ff0300019a66c0000201") ∷ sign_tick ∷ [])) ≡ blank_up 14
unfolding after request hex
no_minutes_over = refl

-- no time is left: it is over at once
no_time_is_accepted : status_and_index (after bench up) (set_number 6 4 0 ∷ []) ≡ (0, 0)
unfolding status_and_index request hex
no_time_is_accepted = refl

no_time : seen (after bench (up ++ sets (set_number 6 4 0) ∷ [])) ≡ blank_up 14
unfolding after request hex
no_time = refl

-- a code of what is shown keeps it, without an end
end_keeps : seen (after bench (up_for_five ++ sets (set_code 6 15 (codes "05ffffabcd")) ∷ seconds 300)) ≡ letter_up 14 65535
unfolding after request hex
end_keeps = refl

-- ---- codes, while "A" is up: what is up then, its priority, and the error

abbrev then_up : List ℕ → List ℕ
then_up digits =
    let world = after bench (up ++ puts_up digits ∷ []) in
    world.sign.shown.source.memory ∷ world.sign.shown.priority ∷ world.sign.reports.activate_error ∷ []

wrong_memory : then_up (codes "ffffff060001000000000000") ≡ 3 ∷ 200 ∷ 5 ∷ []
unfolding after request hex
wrong_memory = refl

wrong_number : then_up (codes "ffffff0300039a6600000000") ≡ 3 ∷ 200 ∷ 6 ∷ []
unfolding after request hex
wrong_number = refl

wrong_status : then_up (codes "ffffff0300020f4700000000") ≡ 3 ∷ 200 ∷ 4 ∷ []
unfolding after request hex
wrong_status = refl

wrong_checksum : then_up (codes "ffffff0300010f4700000000") ≡ 3 ∷ 200 ∷ 7 ∷ []
unfolding after request hex
wrong_checksum = refl

low_priority : then_up (codes "ffffc70300019a6600000000") ≡ 3 ∷ 200 ∷ 3 ∷ []
unfolding after request hex
low_priority = refl

equal_priority : then_up (codes "ffffc80300019a6600000000") ≡ 3 ∷ 200 ∷ 2 ∷ []
unfolding after request hex
equal_priority = refl

blank_message : then_up (codes "ffffff0700ff123400000000") ≡ 7 ∷ 255 ∷ 2 ∷ []
unfolding after request hex
blank_message = refl

-- ---- what is up is a copy

abbrev changes : List EventModel
changes = sets (set_cell Status 3 1 (integer (pos 6))) ∷ sets (set_cell MultiString 3 1 (octet_string (codes "B"))) ∷ []

changed_row : seen (after bench (up ++ changes)) ≡ letter_up 8 65535
unfolding after request hex
changed_row = refl

-- ---- one row is validated at a time, and a loss of power interrupts it

abbrev both_asked : List EventModel
both_asked = fills 3 1 (codes "A") ++ fills 3 2 (codes "B")

second_waits : statuses (after bench both_asked) ≡ 3 ∷ 2 ∷ []
unfolding after request hex
second_waits = refl

second_is_refused : status_and_index (after bench both_asked) (set_cell Status 3 2 (integer (pos 7)) ∷ []) ≡ (5, 1)
unfolding status_and_index request hex
second_is_refused = refl

interrupted : statuses (after bench (both_asked ++ power_lost ∷ power_back 1 ∷ [])) ≡ 2 ∷ 2 ∷ []
unfolding after request hex
interrupted = refl

-- ---- more than one value in a SET: what is refused, and at which index

-- a name twice
name_twice : status_and_index bench (set_number 6 10 5 ∷ set_number 6 10 6 ∷ []) ≡ (5, 2)
unfolding status_and_index
name_twice = refl

-- a value out of its range comes before that
out_of_range : status_and_index bench (set_number 6 10 65536 ∷ set_number 6 10 6 ∷ []) ≡ (3, 1)
unfolding status_and_index
out_of_range = refl

-- four octets for a code of five, and nothing is set
short_code : status_and_index bench (set_number 6 10 5 ∷ set_code 6 15 (codes "07000100") ∷ []) ≡ (3, 2)
unfolding status_and_index hex
short_code = refl

nothing_set : (after bench (request Set (set_number 6 10 5 ∷ set_code 6 15 (codes "07000100") ∷ []) ∷ [])).sign.settings.short_power_loss_time ≡ 0
unfolding after request hex
nothing_set = refl

-- a row is opened and filled at once: the field is judged on the state before
opened_and_filled : status_and_index bench (set_cell Status 3 1 (integer (pos 6)) ∷ set_cell MultiString 3 1 (octet_string (codes "A")) ∷ []) ≡ (5, 2)
unfolding status_and_index
opened_and_filled = refl

-- a row is filled and asked to be validated at once
filled_and_asked : statuses (after bench (sets (set_cell Status 3 1 (integer (pos 6)))
    ∷ request Set (set_cell MultiString 3 1 (octet_string (codes "B")) ∷ set_cell Status 3 1 (integer (pos 7)) ∷ []) ∷ sign_tick ∷ [])) ≡ 4 ∷ 1 ∷ []
unfolding after request hex
filled_and_asked = refl

-- two commands
two_commands : status_and_index (after bench up) (set_code 6 3 (codes "ffffff0300019a66c0000201") ∷ set_number 6 4 7 ∷ []) ≡ (5, 2)
unfolding status_and_index request hex
two_commands = refl

-- ---- losses of power

-- a volatile row is gone with the power, and the code of the recovery finds nothing
abbrev volatile_up : List EventModel
volatile_up =
    fills 4 1 (codes "A") ++ sign_tick ∷ puts_up (codes "ffffff0400019a66c0000201") ∷ sets (set_number 6 10 10)
    ∷ sets (set_code 6 8 (codes "0400019a66")) ∷ []

volatile_shown : seen (after bench volatile_up) ≡ record { memory = 4; number = 1; text = codes "A"; mode = 8; minutes = 65535 }
unfolding after request hex
volatile_shown = refl

volatile_gone : seen (after bench (volatile_up ++ power_lost ∷ power_back 10 ∷ [])) ≡ blank_up 10
unfolding after request hex
volatile_gone = refl

volatile_told : errors (after bench (volatile_up ++ power_lost ∷ power_back 10 ∷ [])) ≡ 4 ∷ 2 ∷ 0 ∷ []
unfolding after request hex
volatile_told = refl

-- the code of a long loss is that of what was shown
abbrev kept_up : List EventModel
kept_up = up_for_five ++ sets (set_code 6 9 (codes "0500010000")) ∷ []

without_power : seen (after bench (kept_up ++ power_lost ∷ [])) ≡ blank_up 13
unfolding after request hex
without_power = refl

-- the power is lost and a second time, with a request and seconds between
abbrev without : List EventModel
without = power_lost ∷ request Get [] ∷ seconds 400 ++ power_lost ∷ []

-- a sign without power answers nothing, and its seconds change nothing
no_answer : length (after bench (kept_up ++ without)).to_centre ≡ length (after bench kept_up).to_centre
unfolding after request hex
no_answer = refl

no_change : seen (after bench (kept_up ++ without)) ≡ blank_up 13
unfolding after request hex
no_change = refl

brought_back : seen (after bench (kept_up ++ power_lost ∷ power_back 1 ∷ power_back 1 ∷ [])) ≡ letter_up 10 65535
unfolding after request hex
brought_back = refl

-- while no loss is short, a loss of no seconds is long
no_loss_is_short : seen (after bench (kept_up ++ power_lost ∷ power_back 0 ∷ [])) ≡ letter_up 10 65535
unfolding after request hex
no_loss_is_short = refl

short_loss : seen (after bench (kept_up ++ sets (set_number 6 10 1) ∷ power_lost ∷ power_back 1 ∷ [])) ≡ blank_up 10
unfolding after request hex
short_loss = refl

-- ---- replies that are too big

abbrev long_text : List ℕ
long_text = replicate 512 65

-- three times a text of 512 octets: the reply repeats the request
abbrev asked_thrice : List VarBind
asked_thrice =
    let one : VarBind = record { name = cell_name MultiString (record { memory = 3; number = 1 }); value = null } in
    one ∷ one ∷ one ∷ []

abbrev long_row : List EventModel
long_row = sets (set_cell Status 3 1 (integer (pos 6))) ∷ sets (set_cell MultiString 3 1 (octet_string long_text)) ∷ []

too_big : (after bench (long_row ++ request Get asked_thrice ∷ [])).to_centre
    ≡ (after bench long_row).to_centre
    ++ canonical (record { community = codes "admin"; kind = Response; request = pos 9; status = pos 1; index = pos 0; bindings = asked_thrice }) ∷ []
unfolding after request hex
too_big = refl
