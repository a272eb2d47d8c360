-- The ledger of a centre is honest: its requests have numbers of their own, and what it says of a code is what the sign
-- did (this profile).
use Rattle.std.specs.Prelude.{◌≡◌, ◌≢◌, ℕ, ℤ, pos, suc, ◌<◌, ◌≤◌, true, List, [], ◌∷◌, slice_get, Some, None}
use Rattle.dms_wire.specs.ErrorStatus.{error_status_number}
use Rattle.dms_wire.specs.Message.{SnmpMessage}
use Rattle.dms_codes.specs.declared.codes.Activation.{Activation}
use Rattle.dms_codes.specs.Checksum.{message_checksum}
use Rattle.dms_codes.specs.Codes.{octets_of_activation}
use Rattle.dms_codes.specs.Memory.{current_buffer, blank_memory}
use Rattle.dms_table.specs.Activation.{ShownModel}
use Rattle.dms_sign.specs.Requests.{Answer, answer_of_any_size}
use Rattle.dms_sign.specs.Reply.{is_heard}
use Rattle.dms_sign.specs.Promises.{activates}
use Rattle.dms_centre.specs.declared.outcome.Outcome.TheVariants.{Accepted, Refused}
use Rattle.dms_centre.specs.State.{Entry}
use Rattle.dms_centre_jobs.specs.Steps.{code_of}
use Rattle.dms_centre_jobs.specs.Commands.{CommandModel, job_of}
use Rattle.dms_centre.specs.Commands.{refusal_of}
use Rattle.dms_centre_laws.specs.RequestNumbers.{HasNumber, EqualNumbersMeanEqualOctets, ThreeSendsAtMost}
use Rattle.dms_world.specs.Event.{EventModel, command, to_sign}
use Rattle.dms_world.specs.World.{WorldModel, world_at, world_after}
use Rattle.dms_world.specs.Backed.{Has}

-- ---- numbers

-- A request has a number of its own, across restarts too, and goes out three times at most, its octets unchanged.
pub record RequestsAgree (world : WorldModel) (events : List EventModel) : Type 0 where
  pub same : EqualNumbersMeanEqualOctets (world_after world events).to_sign
  pub few : ThreeSendsAtMost (world_after world events).to_sign

-- ---- a request, sent and handed over

-- after so many events some datagram to the sign spells a request of this number
pub record WasSent (world : WorldModel) (events : List EventModel) (number count : ℕ) : Type 0 where
  pub datagram : List ℕ
  pub there : Has (world_at world events count).to_sign datagram
  pub has_number : HasNumber number datagram

-- after so many events, and no fewer
pub record IsSentAt (world : WorldModel) (events : List EventModel) (number count : ℕ) : Type 0 where
  pub sent : WasSent world events number count
  pub least : (fewer : ℕ) → WasSent world events number fewer → count ≤ fewer

-- The event that follows on so many others handed the sign a datagram that spells the request of this number, and that
-- had been sent before.
pub record WasDelivered (world : WorldModel) (events : List EventModel) (number before : ℕ) : Type 0 where
  pub sent_at : ℕ
  pub is_sent_at : IsSentAt world events number sent_at
  pub later : sent_at < suc before
  pub place : ℕ
  pub event : slice_get events before ≡ Some (to_sign place)
  pub datagram : List ℕ
  pub handed : slice_get (world_at world events before).to_sign place ≡ Some datagram
  pub has_number : HasNumber number datagram

-- The sign answered it: it had power then, and heard a request of one of its two communities.
pub record WasAnswered (world : WorldModel) (events : List EventModel) (number before : ℕ) : Type 0 where
  pub delivered : WasDelivered world events number before
  pub heard : is_heard (world_at world events before).sign delivered.has_number.message ≡ true

-- the request that it answered
abbrev pub request_in : {world : WorldModel} {events : List EventModel} {number before : ℕ}
    → WasAnswered world events number before → SnmpMessage
request_in answered = answered.delivered.has_number.message

-- what it answered
abbrev pub answer_in : {world : WorldModel} {events : List EventModel} {number before : ℕ}
    → WasAnswered world events number before → Answer
answer_in {world} {events} {number} {before} answered =
    answer_of_any_size (world_at world events before).sign (request_in answered)

-- ---- what the ledger says

-- it sets dmsActivateMessage to these octets, and nothing else
abbrev pub Carries : SnmpMessage → List ℕ → Type 0
Carries message octets = message.bindings ≡ activates octets ∷ []

abbrev pub shown_checksum : ShownModel → ℕ
shown_checksum shown = message_checksum shown.text shown.beacon shown.pixel

-- The sign accepted the code of the entry as it answered its request: the same octets, whatever the orders of the two
-- ends. Where they have one order, and the code names a row, what was activated then has the code's checksum.
pub record WasAccepted (world : WorldModel) (events : List EventModel) (entry : Entry) : Type 0 where
  pub before : ℕ
  pub answered : WasAnswered world events entry.number before
  pub code : Activation
  pub accepted : (answer_in answered).accepted ≡ Some code
  pub listed : Has (world_after world events).accepted (suc before, code)
  pub same : octets_of_activation world.sign.table.order code
      ≡ octets_of_activation world.centre.settings.order entry.code
  pub carries : Carries (request_in answered) (octets_of_activation world.centre.settings.order entry.code)
  pub put_up : entry.code.id.memory ≢ current_buffer → entry.code.id.memory ≢ blank_memory
      → world.sign.table.order ≡ world.centre.settings.order
      → shown_checksum (world_at world events (suc before)).sign.shown ≡ entry.code.id.crc

-- the sign answered the entry's request with this status
pub record WasRefused (world : WorldModel) (events : List EventModel) (entry : Entry) (status : ℤ) : Type 0 where
  pub before : ℕ
  pub answered : WasAnswered world events entry.number before
  pub status_is : pos (error_status_number (answer_in answered).status) ≡ status

-- each entry that is accepted
abbrev pub AcceptedWasAccepted : WorldModel → List EventModel → Type 0
AcceptedWasAccepted world events =
    (entry : Entry) → Has (world_after world events).centre.ledger entry → entry.outcome ≡ Accepted
    → WasAccepted world events entry

-- each entry that is refused
abbrev pub RefusedWasRefused : WorldModel → List EventModel → Type 0
RefusedWasRefused world events =
    (entry : Entry) (status : ℤ) → Has (world_after world events).centre.ledger entry → entry.outcome ≡ Refused status
    → WasRefused world events entry status

-- ---- whose codes the ledger has

-- The code of the entry is that of a command which the centre took; of a publication it has the checksum of the
-- operator's text, beacon and pixel service.
pub record WasOrdered (world : WorldModel) (events : List EventModel) (entry : Entry) : Type 0 where
  pub before : ℕ
  pub asked : CommandModel
  pub event : slice_get events before ≡ Some (command asked)
  pub taken : refusal_of (world_at world events before).centre asked ≡ None
  pub code : code_of (job_of asked).work ≡ entry.code

abbrev pub LedgerWasOrdered : WorldModel → List EventModel → Type 0
LedgerWasOrdered world events = (entry : Entry) → Has (world_after world events).centre.ledger entry
    → WasOrdered world events entry
