-- What a reply to the waiting request makes of a job (this profile): on each step it goes on, waits or ends.
use Rattle.std.specs.Prelude.{ℕ, ℤ, pos, ◌+◌, ◌==◌, ◌&&◌, Bool, true, false, nat_eq, nat_lt, List, [], ◌∷◌, map, Option}
use Rattle.std.specs.Prelude.{Some, None, if◌then◌else◌}
use Rattle.std.specs.Ordering.{int_eq}
use Rattle.std.specs.Cmp.Lexicographic.{pointwise}
use Rattle.dms_wire.specs.declared.message.Kind.{Kind}
use Rattle.dms_wire.specs.declared.message.Kind.TheVariants.{Response}
use Rattle.dms_wire.specs.Message.{ObjectValue, integer, VarBind, SnmpMessage}
use Rattle.dms_codes.specs.declared.codes.Order.{Order}
use Rattle.dms_codes.specs.declared.status.Status.TheVariants as statuses
use Rattle.dms_codes.specs.Codes.{in_order}
use Rattle.dms_codes.specs.Status.{status_number}
use Rattle.dms_centre.specs.declared.ended.Ended.TheVariants as endings
use Rattle.dms_centre.specs.declared.ended.Why.TheVariants.{Status, WrongStatus, StillValidating, OtherChecksum}
use Rattle.dms_centre.specs.declared.ended.Why.TheVariants.{OddReply, Cause}
use Rattle.dms_centre.specs.declared.outcome.Outcome.{Outcome}
use Rattle.dms_centre.specs.declared.outcome.Outcome.TheVariants.{Accepted, Refused}
use Rattle.dms_centre_jobs.specs.declared.step.Step.{Step}
use Rattle.dms_centre_jobs.specs.declared.step.Step.TheVariants.{Opening, Opened, Filling, Validating, Polling}
use Rattle.dms_centre_jobs.specs.declared.step.Step.TheVariants.{Comparing}
use Rattle.dms_centre_jobs.specs.declared.step.Step.TheVariants.{Activating, Explaining}
use Rattle.dms_centre_jobs.specs.Job.{Work, Job}
use Rattle.dms_centre.specs.State.{Entry, CentreState}
use Rattle.dms_centre_jobs.specs.Steps.{is_activating, code_of, bindings_of}
use Rattle.dms_centre.specs.Sending.{Move, rests, ends, fails, waits, at_step, sends}

-- ---- the ledger

abbrev pub with_outcome : ℕ → Outcome → Entry → Entry
with_outcome number outcome entry = if entry.number == number then record entry { outcome = outcome } else entry

-- the entry of this number gets its outcome
abbrev pub decided : CentreState → ℕ → Outcome → CentreState
decided state number outcome = record state { ledger = map (with_outcome number outcome) state.ledger }

-- ---- a number was read

-- how many times a row is polled that is being validated
abbrev pub most_polls : ℕ
most_polls = 10

-- Each row that still is being validated is polled ten times in all, one tick apart.
abbrev pub polled_again : CentreState → Job → Move
polled_again state job =
    if nat_lt (job.polls + 1) most_polls then waits state (record job { polls = job.polls + 1 })
    else fails state Polling StillValidating

abbrev pub is_status : ℤ → ℕ → Bool
is_status n status = int_eq n (pos status)

-- the checksum as the sign is to read it, in the order of the codes' octets
abbrev pub own_checksum : Order → Work → ℕ
own_checksum order work = in_order order (code_of work).id.crc

-- The row must be modifying; it must become valid; its checksum must be the operator's. What dmsActivateMsgError reads
-- is the reason.
abbrev pub on_number : CentreState → Job → Step → ℤ → Move
on_number state job Opened n =
    if is_status n (status_number statuses.Modifying) then sends state (at_step job Filling)
    else fails state Opened (WrongStatus n)
on_number state job Polling n =
    if is_status n (status_number statuses.Valid) then sends state (at_step job Comparing)
    else if is_status n (status_number statuses.Validating) then polled_again state job
    else fails state Polling (WrongStatus n)
on_number state job Comparing n =
    if int_eq n (pos (own_checksum state.settings.order job.work)) then waits state (at_step job Activating)
    else fails state Comparing OtherChecksum
on_number state job Explaining n = fails state Activating (Cause n)
on_number state job step n = rests state

-- ---- noError came (RFC 1157, 4.1.1)

abbrev pub integer_of : ObjectValue → Option ℤ
integer_of (integer n) = Some n
integer_of value = None

-- what a GET of one object read: one binding, with the name that was asked, and an INTEGER
abbrev pub number_read : (asked answered : List VarBind) → Option ℤ
number_read (asked ∷ []) (answered ∷ []) =
    if pointwise nat_eq answered.name asked.name then integer_of answered.value else None
number_read asked answered = None

abbrev pub on_read : CentreState → Job → Option ℤ → Move
on_read state job None = fails state job.step OddReply
on_read state job (Some n) = on_number state job job.step n

abbrev pub asked : CentreState → Job → List VarBind
asked state job = bindings_of state.settings.order job.work job.step

-- A SET goes on whatever the reply's bindings are, a GET by what was read. An activation is accepted.
abbrev pub on_success : CentreState → Job → ℕ → List VarBind → Step → Move
on_success state job number answered Opening = sends state (at_step job Opened)
on_success state job number answered Filling = sends state (at_step job Validating)
on_success state job number answered Validating = sends state (at_step job Polling)
on_success state job number answered Activating = rests (ends (decided state number Accepted) endings.Accepted)
on_success state job number answered step = on_read state job (number_read (asked state job) answered)

-- ---- another status came

-- Of a refused activation the cause is asked; any other refusal ends the job.
abbrev pub on_failure : CentreState → Job → ℕ → ℤ → Move
on_failure state job number status =
    if is_activating job.step then sends (decided state number (Refused status)) (at_step job Explaining)
    else fails state job.step (Status status)

-- ---- a reply

abbrev pub on_reply : CentreState → Job → ℕ → SnmpMessage → Move
on_reply state job number reply =
    if int_eq reply.status (pos 0) then on_success state job number reply.bindings job.step
    else on_failure state job number reply.status

abbrev pub is_response : Kind → Bool
is_response Response = true
is_response kind = false

-- a Response with the centre's community, under the number that waits
abbrev pub is_answer : CentreState → ℕ → SnmpMessage → Bool
is_answer state number message =
    is_response message.kind && pointwise nat_eq message.community state.settings.community
    && int_eq message.request (pos number)
