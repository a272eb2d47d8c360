-- Codes that put messages up on the bench sign, and what ends them, computed.
use Rattle.std.proofs.Common.{◌≡◌, ℕ, List, [], ◌∷◌, Some, None, refl}
use Rattle.std.specs.Prelude.{pos, codes}
use Rattle.dms_wire.specs.ErrorStatus.{error_status_number}
use Rattle.dms_wire.specs.declared.message.Kind.TheVariants.{Set}
use Rattle.dms_wire.specs.Message.{integer, octet_string}
use Rattle.dms_face.proofs.Bench.{bench}
use Rattle.dms_mib.specs.declared.scalar.Scalar.TheVariants.{MessageTimeRemaining, ShortPowerLossTime, ActivateMessage, ActivateMsgError, ActivateErrorMsgCode, EndDurationMessage}
use Rattle.dms_mib.specs.declared.instance.Instance.TheVariants.{Scalar}
use Rattle.dms_sign.specs.State.{SignState}
use Rattle.dms_sign_laws.proofs.BenchSign.{octets_of, lettered_sign, number, octets, code, answer, status_and_index, after_set, reads, later, seen, letter_a, blank_one}

-- ---- one code twice: five minutes of changeable row 1, with the priority 10

abbrev five_minutes : List ℕ
five_minutes = codes "00050a0300019a66c0000201"

-- "A" is up for five minutes
abbrev pub lettered : SignState
lettered = record lettered_sign {
  shown = record {
    text = codes "A";
    owner = [];
    beacon = 0;
    pixel = 0;
    priority = 200;
    source = record { memory = 3; number = 1; crc = 39526 };
    mode = 8;
    address = 192 ∷ 0 ∷ 2 ∷ 1 ∷ [];
    remaining = Some 300;
    defaults = bench.defaults;
  };
  reports = record lettered_sign.reports { accepted_code = octets_of five_minutes };
}

-- the first puts "A" up, and nothing else changes
first_puts_up : after_set lettered_sign (code five_minutes ∷ []) ≡ lettered
unfolding answer
first_puts_up = refl

-- it is accepted with what it says
first_is_accepted : (answer lettered_sign Set (code five_minutes ∷ [])).accepted
    ≡ Some (record { minutes = 5; priority = 10; id = record { memory = 3; number = 1; crc = 39526 }; address = 192 ∷ 0 ∷ 2 ∷ 1 ∷ [] })
unfolding answer
first_is_accepted = refl

-- and answered with noError
first_reply : status_and_index lettered_sign (code five_minutes ∷ []) ≡ (0, 0)
unfolding answer
first_reply = refl

-- the second is refused, since the run-time priority of "A" is 200: genErr
second_reply : status_and_index lettered (code five_minutes ∷ []) ≡ (5, 1)
unfolding answer
second_reply = refl

-- it is not among what was accepted
second_is_not_accepted : (answer lettered Set (code five_minutes ∷ [])).accepted ≡ None
unfolding answer
second_is_not_accepted = refl

-- its cause is priority
second_has_a_cause : reads (after_set lettered (code five_minutes ∷ [])) (Scalar ActivateMsgError) ≡ Some (integer (pos 3))
unfolding answer reads
second_has_a_cause = refl

-- "A" stays, and its duration goes on
second_changes_nothing_up : seen (after_set lettered (code five_minutes ∷ [])) ≡ letter_a 8 (Some 300)
unfolding answer
second_changes_nothing_up = refl

-- ---- the duration

-- after 299 seconds "A" is up
last_second : seen (later 299 lettered) ≡ letter_a 8 (Some 1)
unfolding answer later
last_second = refl

-- dmsMessageTimeRemaining reads 1
last_minute : reads (later 299 lettered) (Scalar MessageTimeRemaining) ≡ Some (integer (pos 1))
unfolding answer reads later
last_minute = refl

-- a second later blank 1 is, with the mode endDuration
end_of_the_duration : seen (later 300 lettered) ≡ blank_one 14
unfolding answer later
end_of_the_duration = refl

-- a duration of 0
abbrev no_minutes : SignState
no_minutes = after_set lettered_sign (code (codes "0000ff0300019a6600000000") ∷ [])

-- the message is up with no second left
no_minutes_are_up : seen no_minutes ≡ letter_a 8 (Some 0)
unfolding answer
no_minutes_are_up = refl

-- dmsMessageTimeRemaining reads 0
no_minutes_read : reads no_minutes (Scalar MessageTimeRemaining) ≡ Some (integer (pos 0))
unfolding answer reads
no_minutes_read = refl

-- and ends a second later
no_minutes_end : seen (later 1 no_minutes) ≡ blank_one 14
unfolding answer later
no_minutes_end = refl

-- no time is to remain: noError, and blank 1 is up at once
ended_at_once : status_and_index lettered (number (Scalar MessageTimeRemaining) 0 ∷ []) ≡ (0, 0)
unfolding answer
ended_at_once = refl

-- its mode is endDuration
blank_at_once : seen (after_set lettered (number (Scalar MessageTimeRemaining) 0 ∷ [])) ≡ blank_one 14
unfolding answer
blank_at_once = refl

-- two minutes are to remain
two_minutes : seen (after_set lettered (number (Scalar MessageTimeRemaining) 2 ∷ [])) ≡ letter_a 8 (Some 120)
unfolding answer
two_minutes = refl

-- 65535 is without an end
no_end : seen (after_set lettered (number (Scalar MessageTimeRemaining) 65535 ∷ [])) ≡ letter_a 8 None
unfolding answer
no_end = refl

-- dmsEndDurationMessage is of the current buffer: "A" stays, without an end
abbrev staying_at_its_end : SignState
staying_at_its_end = after_set lettered (octets (Scalar EndDurationMessage) (octets_of (codes "0500010000")) ∷ [])

-- at the end of the duration
stays_at_its_end : seen (later 300 staying_at_its_end) ≡ letter_a 14 None
unfolding answer later
stays_at_its_end = refl

-- and where no time is to remain
stays_at_once : seen (after_set staying_at_its_end (number (Scalar MessageTimeRemaining) 0 ∷ [])) ≡ letter_a 14 None
unfolding answer
stays_at_once = refl

-- ---- causes, with "A" up, whose run-time priority is 200

-- the status that a code is answered, and dmsActivateMsgError after it
abbrev judged : List ℕ → ℕ × ℕ
judged twelve = (error_status_number (answer lettered Set (code twelve ∷ [])).status, (after_set lettered (code twelve ∷ [])).reports.activate_error)

-- memory type 6
no_such_memory : judged (codes "ffffff060001000000000000") ≡ (5, 5)
unfolding answer
no_such_memory = refl

-- changeable row 3
no_such_number : judged (codes "ffffff0300039a6600000000") ≡ (5, 6)
unfolding answer
no_such_number = refl

-- changeable row 2, which is not used
not_valid : judged (codes "ffffff0300020f4700000000") ≡ (5, 4)
unfolding answer
not_valid = refl

-- the checksum of the empty text
other_checksum : judged (codes "ffffff0300010f4700000000") ≡ (5, 7)
unfolding answer
other_checksum = refl

-- activation priority 199
too_low : judged (codes "ffffc70300019a6600000000") ≡ (5, 3)
unfolding answer
too_low = refl

-- activation priority 200
high_enough : judged (codes "ffffc80300019a6600000000") ≡ (0, 2)
unfolding answer
high_enough = refl

-- a blank, whose checksum is not compared
blank_is_accepted : judged (codes "ffffff0700ff123400000000") ≡ (0, 2)
unfolding answer
blank_is_accepted = refl

-- its source is as it came
blank_is_up : seen (after_set lettered (code (codes "ffffff0700ff123400000000") ∷ []))
    ≡ record { text = []; source = octets_of (codes "0700ff1234"); mode = 8; remaining = None }
unfolding answer
blank_is_up = refl

-- the run-time priority of a blank is its number
blank_has_its_priority : (after_set lettered (code (codes "ffffff0700ff123400000000") ∷ [])).shown.priority ≡ 255
unfolding answer
blank_has_its_priority = refl

-- a code that was judged and refused is kept, beside the one last accepted
refused_code_is_kept : reads (after_set lettered (code (codes "ffffff0300039a6600000000") ∷ [])) (Scalar ActivateErrorMsgCode)
    ≡ Some (octet_string (octets_of (codes "ffffff0300039a6600000000")))
unfolding answer reads
refused_code_is_kept = refl

-- the code that was accepted before it is still reported
accepted_code_is_kept : reads (after_set lettered (code (codes "ffffff0300039a6600000000") ∷ [])) (Scalar ActivateMessage)
    ≡ Some (octet_string (octets_of five_minutes))
unfolding answer reads
accepted_code_is_kept = refl

-- a code that would be refused and a time in one SET: a second command, genErr, index 2
two_commands : status_and_index lettered (code (codes "ffffff0300039a6600000000") ∷ number (Scalar MessageTimeRemaining) 9 ∷ []) ≡ (5, 2)
unfolding answer
two_commands = refl

-- the code is not judged, and nothing is reported of it
two_commands_change_nothing : after_set lettered (code (codes "ffffff0300039a6600000000") ∷ number (Scalar MessageTimeRemaining) 9 ∷ []) ≡ lettered
unfolding answer
two_commands_change_nothing = refl

-- a value that is wrong after a code that would be refused: badValue, index 2
wrong_value_after_a_code : status_and_index lettered (code (codes "ffffff0300039a6600000000") ∷ number (Scalar ShortPowerLossTime) 65536 ∷ []) ≡ (3, 2)
unfolding answer
wrong_value_after_a_code = refl

-- the code is not judged
wrong_value_hides_the_code : (after_set lettered (code (codes "ffffff0300039a6600000000") ∷ number (Scalar ShortPowerLossTime) 65536 ∷ [])).reports.activate_error ≡ 2
unfolding answer
wrong_value_hides_the_code = refl

-- ---- codes of the current buffer

-- ten minutes of what is up: its source stays
ten_more_minutes : seen (after_set lettered (code (codes "000aff0500019a6600000000") ∷ [])) ≡ letter_a 8 (Some 600)
unfolding answer
ten_more_minutes = refl

-- while a blank is up its checksum is 0
blank_has_no_checksum : status_and_index lettered_sign (code (codes "ffffff050001000000000000") ∷ []) ≡ (0, 0)
unfolding answer
blank_has_no_checksum = refl

-- its only number is 1
no_second_buffer : judged (codes "ffffff0500029a6600000000") ≡ (5, 6)
unfolding answer
no_second_buffer = refl

-- ---- codes for the end of the duration

-- this code is set for the end, and no time is to remain
abbrev ended_by : List ℕ → SignState
ended_by five = after_set lettered (octets (Scalar EndDurationMessage) (octets_of five) ∷ number (Scalar MessageTimeRemaining) 0 ∷ [])

-- of the current buffer neither the number nor the checksum is looked at
any_current_buffer : seen (ended_by (codes "05ffffabcd")) ≡ letter_a 14 None
unfolding answer
any_current_buffer = refl

-- changeable row 3 is not there: blank 1 is up
refused_at_the_end : seen (ended_by (codes "0300039a66")) ≡ blank_one 14
unfolding answer
refused_at_the_end = refl

-- the cause is the number
refused_at_the_end_is_told : (ended_by (codes "0300039a66")).reports.activate_error ≡ 6
unfolding answer
refused_at_the_end_is_told = refl

-- the code that is reported is the sign's own: without an end, with the highest priority, for nobody
own_code_is_told : (ended_by (codes "0300039a66")).reports.failed_code ≡ octets_of (codes "ffffff0300039a6600000000")
unfolding answer
own_code_is_told = refl
