-- What is recorded of an entry that is accepted or refused was reported by a reply that the centre heard while it waited.
use Rattle.std.proofs.Common.{◌≡◌, inl, inr, ℕ, zero, suc, pos, ◌<◌, List, Option, Some, None, slice_get, refl, sym, subst, arith}
use Rattle.std.proofs.lemmas.Option.{none-some}
use Rattle.dms_wire.specs.Message.{SnmpMessage}
use Rattle.dms_wire.specs.MessageOf.{message_of}
use Rattle.dms_codes.specs.declared.codes.Activation.{Activation}
use Rattle.dms_centre.specs.declared.outcome.Outcome.{Outcome}
use Rattle.dms_centre.specs.declared.outcome.Outcome.TheVariants.{Waiting, Accepted, Refused, NoReply, Unknown}
use Rattle.dms_centre.specs.State.{Entry}
use Rattle.dms_centre.specs.History.{Input, Hears, History}
use Rattle.dms_centre_laws.specs.Ledger.{Answers, Becomes, Stays, IsAccepted, IsRefused, IsUnheard, IsForgotten, EntryMoves}
use Rattle.dms_world.specs.Event.{EventModel}
use Rattle.dms_world.specs.World.{WorldModel, world_at, IsFresh}
use Rattle.dms_world.specs.Backed.{Has}
use Rattle.dms_world.specs.Headline.{AreEvents}
use Rattle.dms_world.proofs.WorldInputs.{input_after, fresh_history}
use Rattle.dms_world.proofs.WorldOrders.{CameBy, rests_at, acts_at, ledger_at}

-- The event that follows on so many others, fewer than `count`, gave the centre this reply to the request of the entry, which waited then.
pub record WasHeard (world : WorldModel) (events : List EventModel) (count number : ℕ) (code : Activation) : Type 0 where
  pub before : ℕ
  pub less : before < count
  pub datagram : List ℕ
  pub came : CameBy (world_at world events before) (slice_get events before) datagram
  pub reply : SnmpMessage
  pub spelled : message_of datagram ≡ Some reply
  pub answers : Answers world.centre.settings number reply
  pub waited : Has (world_at world events before).centre.ledger (record { number = number; code = code; outcome = Waiting })

-- whose status says what the ledger says
abbrev pub WasReported : WorldModel → List EventModel → ℕ → ℕ → Activation → Outcome → Type 0
WasReported world events count number code Waiting = Unit {0}
WasReported world events count number code Accepted = (heard : WasHeard world events count number code) × (heard.reply.status ≡ pos 0)
WasReported world events count number code (Refused status) =
    (heard : WasHeard world events count number code) × (heard.reply.status ≡ status) × (heard.reply.status ≡ pos 0 → ⊥)
WasReported world events count number code NoReply = Unit {0}
WasReported world events count number code Unknown = Unit {0}

abbrev pub EntryWasReported : WorldModel → List EventModel → ℕ → Entry → Type 0
EntryWasReported world events count entry = WasReported world events count entry.number entry.code entry.outcome

-- ---- one event

heard_later : (world : WorldModel) (events : List EventModel) (count number : ℕ) (code : Activation) → WasHeard world events count number code
    → WasHeard world events (suc count) number code
heard_later world events count number code heard = grind arith

reported_later : (world : WorldModel) (events : List EventModel) (count number : ℕ) (code : Activation) (outcome : Outcome)
    → WasReported world events count number code outcome → WasReported world events (suc count) number code outcome
unfolding heard_later
reported_later world events count number code Waiting reported = tt
reported_later world events count number code Accepted reported = (heard_later world events count number code reported.0, reported.1)
reported_later world events count number code (Refused status) reported = (heard_later world events count number code reported.0, reported.1, reported.2)
reported_later world events count number code NoReply reported = tt
reported_later world events count number code Unknown reported = tt

abbrev entry_of : ℕ → Activation → Outcome → Entry
entry_of number code outcome = record { number = number; code = code; outcome = outcome }

heard_now : (world : WorldModel) (events : List EventModel) (count number : ℕ) (code : Activation) (datagram : List ℕ) (reply : SnmpMessage)
    → input_after world events count ≡ Some (Hears datagram) → message_of datagram ≡ Some reply → Answers world.centre.settings number reply
    → Has (world_at world events count).centre.ledger (entry_of number code Waiting) → WasHeard world events (suc count) number code
heard_now world events count number code datagram reply e spelled answers waited = grind arith

reported_by : (world : WorldModel) (events : List EventModel) (count number : ℕ) (code : Activation) (input : Input) (old new : Outcome)
    → input_after world events count ≡ Some input → Has (world_at world events count).centre.ledger (entry_of number code old)
    → WasReported world events count number code old → Becomes world.centre.settings number input old new → WasReported world events (suc count) number code new
unfolding heard_now
reported_by world events count number code i a b e there reported (Stays input outcome) = reported_later world events count number code outcome reported
reported_by world events count number code i a b e there reported (IsAccepted datagram reply spelled answers good) =
    (heard_now world events count number code datagram reply e spelled answers there, good)
reported_by world events count number code i a b e there reported (IsRefused datagram reply spelled answers bad) =
    (heard_now world events count number code datagram reply e spelled answers there, refl, bad)
reported_by world events count number code i a b e there reported IsUnheard = tt
reported_by world events count number code i a b e there reported IsForgotten = tt

reported_entry : (world : WorldModel) (events : List EventModel) (count place : ℕ) (input : Input) (entry later : Entry) → input_after world events count ≡ Some input
    → slice_get (world_at world events count).centre.ledger place ≡ Some entry → EntryWasReported world events count entry
    → EntryMoves world.centre.settings input entry later → EntryWasReported world events (suc count) later
reported_entry world events count place input entry later e there reported moves =
    subst (λ number. WasReported world events (suc count) number later.code later.outcome) (sym moves.number)
    (subst (λ code. WasReported world events (suc count) entry.number code later.outcome) (sym moves.code)
    (reported_by world events count entry.number entry.code input entry.outcome later.outcome e (place, there) reported moves.outcome))

-- ---- after so many events

abbrev AllWereReported : WorldModel → List EventModel → ℕ → List Entry → Type 0
AllWereReported world events count ledger = (place : ℕ) (entry : Entry) → slice_get ledger place ≡ Some entry → EntryWasReported world events count entry

reported_if : (world : WorldModel) (events : List EventModel) → IsFresh world → AreEvents events → (count : ℕ) (o : Option Input) → input_after world events count ≡ o
    → AllWereReported world events count (world_at world events count).centre.ledger
    → AllWereReported world events (suc count) (world_at world events (suc count)).centre.ledger
reported_if world events fresh are count None e reported = grind (arith, rests_at, reported_later, acts_at, ledger_at, reported_entry)
reported_if world events fresh are count (Some input) e reported =
    subst (λ (history : History). AllWereReported world events (suc count) history.state.ledger) (sym (acts_at world events count input e))
    (λ place later there.
    elim ((ledger_at world events fresh are count input e).each place later there) [
      | inl was ↦ reported_entry world events count place input was.0 later e was.1 (reported place was.0 was.1) was.2
      | inr new ↦ subst (WasReported world events (suc count) later.number later.code) (sym new.1.waiting) tt
    ])

pub reported_at : (world : WorldModel) (events : List EventModel) → IsFresh world → AreEvents events → (count place : ℕ) (entry : Entry)
    → slice_get (world_at world events count).centre.ledger place ≡ Some entry → EntryWasReported world events count entry
reported_at world events fresh are zero = grind (arith, fresh_history, none-some, reported_if, input_after)
reported_at world events fresh are (suc count) =
    reported_if world events fresh are count (input_after world events count) refl (reported_at world events fresh are count)
