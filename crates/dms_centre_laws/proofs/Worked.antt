-- Given commands and replies, computed: the datagrams octet for octet, and the state after them.
use Rattle.std.proofs.Common.{◌≡◌, ℕ, zero, suc, ◌+◌, pos, List, [], ◌∷◌, map, length, replicate, Option, Some, None, option_map, option_and_then, slice_get, refl}
use Rattle.dms_wire_ber.specs.Element.{element}
use Rattle.dms_wire_ber.specs.Integer.{integer_octets}
use Rattle.dms_wire_ber.specs.ObjectIdentifier.{name_octets}
use Rattle.dms_wire.specs.Canonical.{binding_octets, numbers_octets, pdu_octets, canonical}
use Rattle.dms_wire.specs.MessageOf.{message_of}
use Rattle.dms_codes.specs.declared.codes.Order.TheVariants.{High, Swapped}
use Rattle.dms_codes.specs.Checksum.{octet_bits}
use Rattle.dms_codes.specs.Codes.{octets_of_activation, activation_of}
use Rattle.dms_centre.specs.declared.ended.Ended.{Ended}
use Rattle.dms_centre.specs.declared.ended.Ended.TheVariants as endings
use Rattle.dms_centre.specs.declared.ended.Why.TheVariants as reasons
use Rattle.dms_centre.specs.declared.fault.CommandFault.{CommandFault}
use Rattle.dms_centre.specs.declared.fault.CommandFault.TheVariants as faults
use Rattle.dms_centre.specs.declared.outcome.Outcome.{Outcome}
use Rattle.dms_centre.specs.declared.outcome.Outcome.TheVariants as outcomes
use Rattle.dms_centre_jobs.specs.Job.{SettingsModel, PublicationModel}
use Rattle.dms_centre.specs.State.{Entry, start}
use Rattle.dms_centre_jobs.specs.Steps.{request_of}
use Rattle.dms_centre.specs.Sending.{sends}
use Rattle.dms_centre_jobs.specs.Commands.{CommandModel, Publish, Blank, Activate}
use Rattle.dms_centre.specs.Commands.{refusal_of, commanded}
use Rattle.dms_centre.specs.Inputs.{received, ticked, restarted}
use Rattle.dms_centre.specs.History.{Input, Commands, Hears, Ticks, Restarts, History, made, after_inputs}

-- community "admin", the high octet of a checksum first
abbrev settings : SettingsModel
settings = record { community = 97 ∷ 100 ∷ 109 ∷ 105 ∷ 110 ∷ []; order = High }

-- after these inputs, from the first number 1
abbrev after : List Input → History
after inputs = after_inputs (made settings 1) inputs

-- how the last job ended, and the next number
record Summary : Type 0 where
  last : Ended
  next : ℕ

abbrev summary : List Input → Summary
summary inputs = record { last = (after inputs).state.last; next = (after inputs).state.next }

-- the ledger with each code as its octets
record Line : Type 0 where
  number : ℕ
  code : List ℕ
  outcome : Outcome

abbrev line : Entry → Line
line entry = record { number = entry.number; code = octets_of_activation High entry.code; outcome = entry.outcome }

abbrev ledger : List Input → List Line
ledger inputs = map line (after inputs).state.ledger

-- ---- replies

-- a Response with no binding, to the request of a number, with an error-status
abbrev reply : (number status : ℕ) → Input
reply number status = Hears (
    0x30 ∷ 0x17 ∷ 0x02 ∷ 0x01 ∷ 0x00 ∷ 0x04 ∷ 0x05 ∷ 0x61 ∷ 0x64 ∷ 0x6d ∷ 0x69 ∷ 0x6e ∷ 0xa2 ∷ 0x0b ∷ 0x02
    ∷ 0x01 ∷ number ∷ 0x02 ∷ 0x01 ∷ status ∷ 0x02 ∷ 0x01 ∷ 0x00 ∷ 0x30 ∷ 0x00 ∷ [])

-- a Response with noError and one binding: a column of the row changeable 1, and a value
abbrev reported : (number column value : ℕ) → Input
reported number column value = Hears (
    0x30 ∷ 0x2e ∷ 0x02 ∷ 0x01 ∷ 0x00 ∷ 0x04 ∷ 0x05 ∷ 0x61 ∷ 0x64 ∷ 0x6d ∷ 0x69 ∷ 0x6e ∷ 0xa2 ∷ 0x22 ∷ 0x02
    ∷ 0x01 ∷ number ∷ 0x02 ∷ 0x01 ∷ 0x00 ∷ 0x02 ∷ 0x01 ∷ 0x00 ∷ 0x30 ∷ 0x17 ∷ 0x30 ∷ 0x15 ∷ 0x06 ∷ 0x10
    ∷ 0x2b ∷ 0x06 ∷ 0x01 ∷ 0x04 ∷ 0x01 ∷ 0x89 ∷ 0x36 ∷ 0x04 ∷ 0x02 ∷ 0x03 ∷ 0x05 ∷ 0x08 ∷ 0x01 ∷ column
    ∷ 0x03 ∷ 0x01 ∷ 0x02 ∷ 0x01 ∷ value ∷ [])

-- ---- publishing

-- the text "A" into the row changeable 1
abbrev publication : PublicationModel
publication = record {
  memory = 3;
  number = 1;
  text = 65 ∷ [];
  owner = [];
  beacon = 0;
  pixel = 0;
  run_priority = 200;
  minutes = 65535;
  priority = 255;
  address = 192 ∷ 0 ∷ 2 ∷ 1 ∷ [];
}

abbrev publish : Input
publish = Commands (Publish publication)

abbrev first_request : List ℕ
first_request =
    0x30 ∷ 0x2e ∷ 0x02 ∷ 0x01 ∷ 0x00 ∷ 0x04 ∷ 0x05 ∷ 0x61 ∷ 0x64 ∷ 0x6d ∷ 0x69 ∷ 0x6e ∷ 0xa3 ∷ 0x22 ∷ 0x02
    ∷ 0x01 ∷ 0x01 ∷ 0x02 ∷ 0x01 ∷ 0x00 ∷ 0x02 ∷ 0x01 ∷ 0x00 ∷ 0x30 ∷ 0x17 ∷ 0x30 ∷ 0x15 ∷ 0x06 ∷ 0x10 ∷ 0x2b
    ∷ 0x06 ∷ 0x01 ∷ 0x04 ∷ 0x01 ∷ 0x89 ∷ 0x36 ∷ 0x04 ∷ 0x02 ∷ 0x03 ∷ 0x05 ∷ 0x08 ∷ 0x01 ∷ 0x09 ∷ 0x03 ∷ 0x01
    ∷ 0x02 ∷ 0x01 ∷ 0x06 ∷ []

first_datagram : (after (publish ∷ [])).sent ≡ first_request ∷ []
unfolding canonical pdu_octets numbers_octets binding_octets element integer_octets name_octets octet_bits message_of request_of sends commanded received ticked restarted
first_datagram = refl

abbrev silence : ℕ → List Input
silence ticks = publish ∷ replicate ticks Ticks

-- its octets again at ticks 3 and 6, and the end at tick 9
silent : map (λ ticks. length (after (silence ticks)).sent) (2 ∷ 3 ∷ 5 ∷ 6 ∷ 8 ∷ 9 ∷ 12 ∷ []) ≡ 1 ∷ 2 ∷ 2 ∷ 3 ∷ 3 ∷ 3 ∷ 3 ∷ []
unfolding canonical pdu_octets numbers_octets binding_octets element integer_octets name_octets octet_bits message_of request_of sends commanded received ticked restarted
silent = refl

three_times : (after (silence 9)).sent ≡ first_request ∷ first_request ∷ first_request ∷ []
unfolding canonical pdu_octets numbers_octets binding_octets element integer_octets name_octets octet_bits message_of request_of sends commanded received ticked restarted
three_times = refl

not_yet : summary (silence 8) ≡ record { last = endings.Never; next = 2 }
unfolding canonical pdu_octets numbers_octets binding_octets element integer_octets name_octets octet_bits message_of request_of sends commanded received ticked restarted
not_yet = refl

no_reply : summary (silence 9) ≡ record { last = endings.Failed 1 reasons.NoReply; next = 2 }
unfolding canonical pdu_octets numbers_octets binding_octets element integer_octets name_octets octet_bits message_of request_of sends commanded received ticked restarted
no_reply = refl

-- ---- the replies to it

-- up to the first poll: a SET is done, the row is modifying, its fields are written, it is being validated
abbrev polling : List Input → List Input
polling inputs = publish ∷ reply 1 0 ∷ reported 2 9 2 ∷ reply 3 0 ∷ reply 4 0 ∷ inputs

-- its checksum, 9A66
abbrev reported_checksum : Input
reported_checksum = Hears (
    0x30 ∷ 0x30 ∷ 0x02 ∷ 0x01 ∷ 0x00 ∷ 0x04 ∷ 0x05 ∷ 0x61 ∷ 0x64 ∷ 0x6d ∷ 0x69 ∷ 0x6e ∷ 0xa2 ∷ 0x24 ∷ 0x02
    ∷ 0x01 ∷ 0x06 ∷ 0x02 ∷ 0x01 ∷ 0x00 ∷ 0x02 ∷ 0x01 ∷ 0x00 ∷ 0x30 ∷ 0x19 ∷ 0x30 ∷ 0x17 ∷ 0x06 ∷ 0x10 ∷ 0x2b
    ∷ 0x06 ∷ 0x01 ∷ 0x04 ∷ 0x01 ∷ 0x89 ∷ 0x36 ∷ 0x04 ∷ 0x02 ∷ 0x03 ∷ 0x05 ∷ 0x08 ∷ 0x01 ∷ 0x05 ∷ 0x03 ∷ 0x01
    ∷ 0x02 ∷ 0x03 ∷ 0x00 ∷ 0x9a ∷ 0x66 ∷ [])

-- the row is valid and its checksum the operator's; the seventh request puts it up
abbrev accepted : List Input
accepted = polling (reported 5 9 4 ∷ reported_checksum ∷ Ticks ∷ reply 7 0 ∷ [])

published : summary accepted ≡ record { last = endings.Accepted; next = 8 }
unfolding canonical pdu_octets numbers_octets binding_octets element integer_octets name_octets octet_bits message_of request_of sends commanded received ticked restarted
published = refl

published_code : ledger accepted ≡ record { number = 7; code = 0xff ∷ 0xff ∷ 0xff ∷ 0x03 ∷ 0x00 ∷ 0x01 ∷ 0x9a ∷ 0x66 ∷ 0xc0 ∷ 0x00 ∷ 0x02 ∷ 0x01 ∷ []; outcome = outcomes.Accepted } ∷ []
unfolding canonical pdu_octets numbers_octets binding_octets element integer_octets name_octets octet_bits message_of request_of sends commanded received ticked restarted
published_code = refl

-- the seventh waits for the tick
due : map (λ inputs. length (after inputs).sent) (polling (reported 5 9 4 ∷ reported_checksum ∷ []) ∷ polling (reported 5 9 4 ∷ reported_checksum ∷ Ticks ∷ []) ∷ []) ≡ 6 ∷ 7 ∷ []
unfolding canonical pdu_octets numbers_octets binding_octets element integer_octets name_octets octet_bits message_of request_of sends commanded received ticked restarted
due = refl

-- so many polls, from the fifth request on, are answered that the row is still being validated
abbrev still_validating : ℕ → ℕ → List Input
still_validating zero number = []
still_validating (suc polls) number = reported number 9 3 ∷ Ticks ∷ still_validating polls (number + 1)

nine_polls : summary (polling (still_validating 9 5)) ≡ record { last = endings.Never; next = 15 }
unfolding canonical pdu_octets numbers_octets binding_octets element integer_octets name_octets octet_bits message_of request_of sends commanded received ticked restarted
nine_polls = refl

ten_polls : summary (polling (still_validating 10 5)) ≡ record { last = endings.Failed 5 reasons.StillValidating; next = 15 }
unfolding canonical pdu_octets numbers_octets binding_octets element integer_octets name_octets octet_bits message_of request_of sends commanded received ticked restarted
ten_polls = refl

-- a refusal of the first request
refused_row : summary (publish ∷ reply 1 5 ∷ []) ≡ record { last = endings.Failed 1 (reasons.Status (pos 5)); next = 2 }
unfolding canonical pdu_octets numbers_octets binding_octets element integer_octets name_octets octet_bits message_of request_of sends commanded received ticked restarted
refused_row = refl

-- the row is not used
wrong_status : summary (publish ∷ reply 1 0 ∷ reported 2 9 1 ∷ []) ≡ record { last = endings.Failed 2 (reasons.WrongStatus (pos 1)); next = 3 }
unfolding canonical pdu_octets numbers_octets binding_octets element integer_octets name_octets octet_bits message_of request_of sends commanded received ticked restarted
wrong_status = refl

-- the status is reported twice
abbrev reported_twice : Input
reported_twice = Hears (
    0x30 ∷ 0x45 ∷ 0x02 ∷ 0x01 ∷ 0x00 ∷ 0x04 ∷ 0x05 ∷ 0x61 ∷ 0x64 ∷ 0x6d ∷ 0x69 ∷ 0x6e ∷ 0xa2 ∷ 0x39 ∷ 0x02
    ∷ 0x01 ∷ 0x02 ∷ 0x02 ∷ 0x01 ∷ 0x00 ∷ 0x02 ∷ 0x01 ∷ 0x00 ∷ 0x30 ∷ 0x2e ∷ 0x30 ∷ 0x15 ∷ 0x06 ∷ 0x10 ∷ 0x2b
    ∷ 0x06 ∷ 0x01 ∷ 0x04 ∷ 0x01 ∷ 0x89 ∷ 0x36 ∷ 0x04 ∷ 0x02 ∷ 0x03 ∷ 0x05 ∷ 0x08 ∷ 0x01 ∷ 0x09 ∷ 0x03 ∷ 0x01
    ∷ 0x02 ∷ 0x01 ∷ 0x02 ∷ 0x30 ∷ 0x15 ∷ 0x06 ∷ 0x10 ∷ 0x2b ∷ 0x06 ∷ 0x01 ∷ 0x04 ∷ 0x01 ∷ 0x89 ∷ 0x36 ∷ 0x04
    ∷ 0x02 ∷ 0x03 ∷ 0x05 ∷ 0x08 ∷ 0x01 ∷ 0x09 ∷ 0x03 ∷ 0x01 ∷ 0x02 ∷ 0x01 ∷ 0x02 ∷ [])

odd_reply : summary (publish ∷ reply 1 0 ∷ reported_twice ∷ []) ≡ record { last = endings.Failed 2 reasons.OddReply; next = 3 }
unfolding canonical pdu_octets numbers_octets binding_octets element integer_octets name_octets octet_bits message_of request_of sends commanded received ticked restarted
odd_reply = refl

-- another name, and no binding
odd_name : summary (publish ∷ reply 1 0 ∷ reported 2 5 2 ∷ []) ≡ record { last = endings.Failed 2 reasons.OddReply; next = 3 }
unfolding canonical pdu_octets numbers_octets binding_octets element integer_octets name_octets octet_bits message_of request_of sends commanded received ticked restarted
odd_name = refl

no_binding : summary (publish ∷ reply 1 0 ∷ reply 2 0 ∷ []) ≡ record { last = endings.Failed 2 reasons.OddReply; next = 3 }
unfolding canonical pdu_octets numbers_octets binding_octets element integer_octets name_octets octet_bits message_of request_of sends commanded received ticked restarted
no_binding = refl

-- ---- putting up a blank message

abbrev blank : Input
blank = Commands (Blank 255 65535 255 (0 ∷ 0 ∷ 0 ∷ 0 ∷ []))

abbrev blank_octets : List ℕ
blank_octets = 0xff ∷ 0xff ∷ 0xff ∷ 0x07 ∷ 0x00 ∷ 0xff ∷ 0x00 ∷ 0x00 ∷ 0x00 ∷ 0x00 ∷ 0x00 ∷ 0x00 ∷ []

blank_waits : ledger (blank ∷ []) ≡ record { number = 1; code = blank_octets; outcome = outcomes.Waiting } ∷ []
unfolding canonical pdu_octets numbers_octets binding_octets element integer_octets name_octets octet_bits message_of request_of sends commanded received ticked restarted
blank_waits = refl

restarted_row : ledger (blank ∷ Restarts ∷ []) ≡ record { number = 1; code = blank_octets; outcome = outcomes.Unknown } ∷ []
unfolding canonical pdu_octets numbers_octets binding_octets element integer_octets name_octets octet_bits message_of request_of sends commanded received ticked restarted
restarted_row = refl

restarted_end : summary (blank ∷ Restarts ∷ []) ≡ record { last = endings.Failed 7 reasons.Restarted; next = 2 }
unfolding canonical pdu_octets numbers_octets binding_octets element integer_octets name_octets octet_bits message_of request_of sends commanded received ticked restarted
restarted_end = refl

-- a late reply changes nothing, and nothing is sent
late_reply : after (blank ∷ Restarts ∷ reply 1 0 ∷ []) ≡ after (blank ∷ Restarts ∷ [])
unfolding canonical pdu_octets numbers_octets binding_octets element integer_octets name_octets octet_bits message_of request_of sends commanded received ticked restarted
late_reply = refl

-- the number of the next request
abbrev after_restart : List (List ℕ)
after_restart = (after (blank ∷ Restarts ∷ publish ∷ [])).sent

second_number : option_map (λ message. message.request) (option_and_then message_of (slice_get after_restart 1)) ≡ Some (pos 2)
unfolding canonical pdu_octets numbers_octets binding_octets element integer_octets name_octets octet_bits message_of request_of sends commanded received ticked restarted
second_number = refl

blank_unheard : ledger (blank ∷ replicate 9 Ticks) ≡ record { number = 1; code = blank_octets; outcome = outcomes.NoReply } ∷ []
unfolding canonical pdu_octets numbers_octets binding_octets element integer_octets name_octets octet_bits message_of request_of sends commanded received ticked restarted
blank_unheard = refl

-- ---- putting up what the sign has

abbrev activation_octets : List ℕ
activation_octets = 0xff ∷ 0xff ∷ 0xff ∷ 0x03 ∷ 0x00 ∷ 0x01 ∷ 0x9a ∷ 0x66 ∷ 0x00 ∷ 0x00 ∷ 0x00 ∷ 0x00 ∷ []

-- dmsActivateMsgError is 7, in reply to request 2
abbrev reported_cause : Input
reported_cause = Hears (
    0x30 ∷ 0x2b ∷ 0x02 ∷ 0x01 ∷ 0x00 ∷ 0x04 ∷ 0x05 ∷ 0x61 ∷ 0x64 ∷ 0x6d ∷ 0x69 ∷ 0x6e ∷ 0xa2 ∷ 0x1f ∷ 0x02
    ∷ 0x01 ∷ 0x02 ∷ 0x02 ∷ 0x01 ∷ 0x00 ∷ 0x02 ∷ 0x01 ∷ 0x00 ∷ 0x30 ∷ 0x14 ∷ 0x30 ∷ 0x12 ∷ 0x06 ∷ 0x0d ∷ 0x2b
    ∷ 0x06 ∷ 0x01 ∷ 0x04 ∷ 0x01 ∷ 0x89 ∷ 0x36 ∷ 0x04 ∷ 0x02 ∷ 0x03 ∷ 0x06 ∷ 0x11 ∷ 0x00 ∷ 0x02 ∷ 0x01 ∷ 0x07
    ∷ [])

-- a Response with another community, and a Get
abbrev of_public : Input
of_public = Hears (
    0x30 ∷ 0x18 ∷ 0x02 ∷ 0x01 ∷ 0x00 ∷ 0x04 ∷ 0x06 ∷ 0x70 ∷ 0x75 ∷ 0x62 ∷ 0x6c ∷ 0x69 ∷ 0x63 ∷ 0xa2 ∷ 0x0b
    ∷ 0x02 ∷ 0x01 ∷ 0x01 ∷ 0x02 ∷ 0x01 ∷ 0x00 ∷ 0x02 ∷ 0x01 ∷ 0x00 ∷ 0x30 ∷ 0x00 ∷ [])

abbrev of_get : Input
of_get = Hears (
    0x30 ∷ 0x17 ∷ 0x02 ∷ 0x01 ∷ 0x00 ∷ 0x04 ∷ 0x05 ∷ 0x61 ∷ 0x64 ∷ 0x6d ∷ 0x69 ∷ 0x6e ∷ 0xa0 ∷ 0x0b ∷ 0x02
    ∷ 0x01 ∷ 0x01 ∷ 0x02 ∷ 0x01 ∷ 0x00 ∷ 0x02 ∷ 0x01 ∷ 0x00 ∷ 0x30 ∷ 0x00 ∷ [])

abbrev activate : Input
activate = Commands (Activate (activation_of High (activation_octets)))

-- A forged Response is taken for the sign's: whoever can send to the centre can make it believe.
forged : ledger (activate ∷ reply 1 0 ∷ []) ≡ record { number = 1; code = activation_octets; outcome = outcomes.Accepted } ∷ []
unfolding canonical pdu_octets numbers_octets binding_octets element integer_octets name_octets octet_bits message_of request_of sends commanded received ticked restarted
forged = refl

-- the cause of a refusal is asked, and reported
refused : ledger (activate ∷ reply 1 5 ∷ reported_cause ∷ []) ≡ record { number = 1; code = activation_octets; outcome = outcomes.Refused (pos 5) } ∷ []
unfolding canonical pdu_octets numbers_octets binding_octets element integer_octets name_octets octet_bits message_of request_of sends commanded received ticked restarted
refused = refl

refused_end : summary (activate ∷ reply 1 5 ∷ reported_cause ∷ []) ≡ record { last = endings.Failed 7 (reasons.Cause (pos 7)); next = 3 }
unfolding canonical pdu_octets numbers_octets binding_octets element integer_octets name_octets octet_bits message_of request_of sends commanded received ticked restarted
refused_end = refl

-- another number, another community, another kind, and octets that spell no message: nothing changes
others : map (λ input. after (activate ∷ input ∷ [])) (reply 2 0 ∷ of_public ∷ of_get ∷ Hears (48 ∷ []) ∷ []) ≡ replicate 4 (after (activate ∷ []))
unfolding canonical pdu_octets numbers_octets binding_octets element integer_octets name_octets octet_bits message_of request_of sends commanded received ticked restarted
others = refl

-- ---- the last number

abbrev last_of_all : List Input → History
last_of_all inputs = after_inputs (made settings 2147483647) inputs

-- genErr to the request of that number
abbrev refused_last : Input
refused_last = Hears (
    0x30 ∷ 0x1a ∷ 0x02 ∷ 0x01 ∷ 0x00 ∷ 0x04 ∷ 0x05 ∷ 0x61 ∷ 0x64 ∷ 0x6d ∷ 0x69 ∷ 0x6e ∷ 0xa2 ∷ 0x0e ∷ 0x02
    ∷ 0x04 ∷ 0x7f ∷ 0xff ∷ 0xff ∷ 0xff ∷ 0x02 ∷ 0x01 ∷ 0x05 ∷ 0x02 ∷ 0x01 ∷ 0x00 ∷ 0x30 ∷ 0x00 ∷ [])

last_number_ledger : map line (last_of_all (activate ∷ refused_last ∷ [])).state.ledger ≡ record { number = 2147483647; code = activation_octets; outcome = outcomes.Refused (pos 5) } ∷ []
unfolding canonical pdu_octets numbers_octets binding_octets element integer_octets name_octets octet_bits message_of request_of sends commanded received ticked restarted
last_number_ledger = refl

last_number_end : (last_of_all (activate ∷ refused_last ∷ [])).state.last ≡ endings.Failed 8 reasons.NumbersUsedUp
unfolding canonical pdu_octets numbers_octets binding_octets element integer_octets name_octets octet_bits message_of request_of sends commanded received ticked restarted
last_number_end = refl

no_number_left : refusal_of (last_of_all (activate ∷ refused_last ∷ [])).state (Blank 1 1 1 (0 ∷ 0 ∷ 0 ∷ 0 ∷ [])) ≡ Some faults.NumbersUsedUp
unfolding canonical pdu_octets numbers_octets binding_octets element integer_octets name_octets octet_bits message_of request_of sends commanded received ticked restarted
no_number_left = refl

activation_datagram : (after (activate ∷ [])).sent
    ≡ (
    0x30 ∷ 0x36 ∷ 0x02 ∷ 0x01 ∷ 0x00 ∷ 0x04 ∷ 0x05 ∷ 0x61 ∷ 0x64 ∷ 0x6d ∷ 0x69 ∷ 0x6e ∷ 0xa3 ∷ 0x2a ∷ 0x02 ∷ 0x01
    ∷ 0x01 ∷ 0x02 ∷ 0x01 ∷ 0x00 ∷ 0x02 ∷ 0x01 ∷ 0x00 ∷ 0x30 ∷ 0x1f ∷ 0x30 ∷ 0x1d ∷ 0x06 ∷ 0x0d ∷ 0x2b ∷ 0x06 ∷ 0x01
    ∷ 0x04 ∷ 0x01 ∷ 0x89 ∷ 0x36 ∷ 0x04 ∷ 0x02 ∷ 0x03 ∷ 0x06 ∷ 0x03 ∷ 0x00 ∷ 0x04 ∷ 0x0c ∷ 0xff ∷ 0xff ∷ 0xff ∷ 0x03
    ∷ 0x00 ∷ 0x01 ∷ 0x9a ∷ 0x66 ∷ 0x00 ∷ 0x00 ∷ 0x00 ∷ 0x00 ∷ [])
    ∷ []
unfolding canonical pdu_octets numbers_octets binding_octets element integer_octets name_octets octet_bits message_of request_of sends commanded received ticked restarted
activation_datagram = refl

-- the cause is refused too: the entry stays refused
cause_refused : summary (activate ∷ reply 1 5 ∷ reply 2 5 ∷ []) ≡ record { last = endings.Failed 8 (reasons.Status (pos 5)); next = 3 }
unfolding canonical pdu_octets numbers_octets binding_octets element integer_octets name_octets octet_bits message_of request_of sends commanded received ticked restarted
cause_refused = refl

-- ---- more of publishing

-- the sign reads a checksum of these two octets, which needs no third
abbrev reported_octets : (high low : ℕ) → Input
reported_octets high low = Hears (
    0x30 ∷ 0x2f ∷ 0x02 ∷ 0x01 ∷ 0x00 ∷ 0x04 ∷ 0x05 ∷ 0x61 ∷ 0x64 ∷ 0x6d ∷ 0x69 ∷ 0x6e ∷ 0xa2 ∷ 0x23 ∷ 0x02 ∷ 0x01
    ∷ 0x06 ∷ 0x02 ∷ 0x01 ∷ 0x00 ∷ 0x02 ∷ 0x01 ∷ 0x00 ∷ 0x30 ∷ 0x18 ∷ 0x30 ∷ 0x16 ∷ 0x06 ∷ 0x10 ∷ 0x2b ∷ 0x06 ∷ 0x01
    ∷ 0x04 ∷ 0x01 ∷ 0x89 ∷ 0x36 ∷ 0x04 ∷ 0x02 ∷ 0x03 ∷ 0x05 ∷ 0x08 ∷ 0x01 ∷ 0x05 ∷ 0x03 ∷ 0x01 ∷ 0x02 ∷ 0x02 ∷ high
    ∷ low ∷ [])

-- the sign reads another checksum, 7502
other_checksum : summary (polling (reported 5 9 4 ∷ reported_octets 0x75 0x02 ∷ [])) ≡ record { last = endings.Failed 6 reasons.OtherChecksum; next = 7 }
unfolding canonical pdu_octets numbers_octets binding_octets element integer_octets name_octets octet_bits message_of request_of sends commanded received ticked restarted
other_checksum = refl

-- the other order of a checksum's octets: 669A is read, and stands in the code
abbrev swapped : History
swapped = after_inputs (made (record settings { order = Swapped }) 1) (polling (reported 5 9 4 ∷ reported_octets 0x66 0x9a ∷ Ticks ∷ []))

swapped_code : map (λ (entry : Entry). octets_of_activation Swapped entry.code) swapped.state.ledger ≡ (0xff ∷ 0xff ∷ 0xff ∷ 0x03 ∷ 0x00 ∷ 0x01 ∷ 0x66 ∷ 0x9a ∷ 0xc0 ∷ 0x00 ∷ 0x02 ∷ 0x01 ∷ []) ∷ []
unfolding canonical pdu_octets numbers_octets binding_octets element integer_octets name_octets octet_bits message_of request_of sends commanded received ticked restarted
swapped_code = refl

-- a restart while the next poll is due, and while the activation is
restarted_polling : summary (polling (reported 5 9 3 ∷ Restarts ∷ [])) ≡ record { last = endings.Failed 5 reasons.Restarted; next = 6 }
unfolding canonical pdu_octets numbers_octets binding_octets element integer_octets name_octets octet_bits message_of request_of sends commanded received ticked restarted
restarted_polling = refl

restarted_due : summary (polling (reported 5 9 4 ∷ reported_checksum ∷ Restarts ∷ [])) ≡ record { last = endings.Failed 7 reasons.Restarted; next = 7 }
unfolding canonical pdu_octets numbers_octets binding_octets element integer_octets name_octets octet_bits message_of request_of sends commanded received ticked restarted
restarted_due = refl

-- ---- commands that are not taken

abbrev refusals : List CommandModel → List (Option CommandFault)
refusals commands = map (refusal_of (start settings 1)) commands

abbrev address : List ℕ
address = 0 ∷ 0 ∷ 0 ∷ 0 ∷ []

bad_commands : refusals (
    Publish (record publication { memory = 2 }) ∷ Publish (record publication { number = 0 }) ∷ Publish (record publication { text = replicate 513 65 })
    ∷ Publish (record publication { owner = replicate 128 65 }) ∷ Publish (record publication { beacon = 2 }) ∷ Publish (record publication { pixel = 2 })
    ∷ Publish (record publication { run_priority = 0 }) ∷ Blank 0 1 1 address ∷ Blank 256 1 1 address ∷ [])
    ≡ replicate 9 (Some faults.BadCommand)
bad_commands = refl

-- at the limits; any code is sent
good_commands : refusals (
    Publish (record publication { memory = 4 }) ∷ Publish (record publication { text = replicate 512 65 }) ∷ Publish (record publication { owner = replicate 127 65 })
    ∷ Blank 1 1 1 address ∷ Blank 255 1 1 address ∷ Activate (activation_of High (replicate 12 0)) ∷ [])
    ≡ replicate 6 None
good_commands = refl

-- being busy is looked at first
busy : refusal_of (after (publish ∷ [])).state (Blank 0 1 1 address) ≡ Some faults.Busy
unfolding canonical pdu_octets numbers_octets binding_octets element integer_octets name_octets octet_bits message_of request_of sends commanded received ticked restarted
busy = refl
