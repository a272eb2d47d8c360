-- What was sent and what was accepted stays in its place, whatever happens later.
use Rattle.std.proofs.Common.{◌≡◌, ℕ, zero, suc, ◌<◌, ◌≤◌, inl, inr, List, ◌++◌, Option, Some, None, slice_get, option_to_list, refl, subst, arith, append-nil}
use Rattle.std.proofs.lemmas.Bool.{cases_lt}
use Rattle.dms_codes.specs.declared.codes.Activation.{Activation}
use Rattle.dms_sign.specs.Reply as sign_reply
use Rattle.dms_centre_jobs.specs.Job.{SettingsModel}
use Rattle.dms_centre.specs.Sending.{Move}
use Rattle.dms_centre.specs.Commands.{commanded}
use Rattle.dms_centre.specs.Inputs.{ticked}
use Rattle.dms_centre.specs.History.{Input, History, move_at}
use Rattle.dms_centre_laws.specs.RequestNumbers.{HasNumber, Sends, Nothing, Again, New}
use Rattle.dms_centre_laws.proofs.Lists.{on_left, in_push}
use Rattle.dms_centre_laws.proofs.Numbers.{one_number, request_number}
use Rattle.dms_centre_laws.proofs.Keeping.{keeps_input}
use Rattle.dms_centre_laws.proofs.LedgerLaws.{HistoryIsKept, next_grows}
use Rattle.dms_world.specs.Event.{EventModel, command, sign_tick, centre_tick, to_sign, to_centre, power_lost, power_back, centre_restart, forge_sign, forge_centre}
use Rattle.dms_world.specs.World.{WorldModel, by_sign, by_centre, at_sign, at_centre, happens, happens_if, world_at, IsFresh}
use Rattle.dms_world.specs.Backed.{Has}
use Rattle.dms_world.specs.Headline.{AreEvents}
use Rattle.dms_world.proofs.WorldInputs.{history_of, after_if, input_after, moves_at, IsInputIf, is_input_after}
use Rattle.dms_world.proofs.WorldNumbers.{kept_at}

-- each datagram and each activation is where it was
pub record Grows (before after : WorldModel) : Type 0 where
  pub to_sign : (place : ℕ) (datagram : List ℕ) → slice_get before.to_sign place ≡ Some datagram → slice_get after.to_sign place ≡ Some datagram
  pub to_centre : (place : ℕ) (datagram : List ℕ) → slice_get before.to_centre place ≡ Some datagram → slice_get after.to_centre place ≡ Some datagram
  pub accepted : (place : ℕ) (one : ℕ × Activation) → slice_get before.accepted place ≡ Some one → slice_get after.accepted place ≡ Some one

-- ---- one event

grows_not : (before after : WorldModel) → after.to_sign ≡ before.to_sign → after.to_centre ≡ before.to_centre → after.accepted ≡ before.accepted → Grows before after
grows_not before after a b c = grind arith

grows_by_sign : (number : ℕ) (world : WorldModel) (did : sign_reply.Received) → Grows world (by_sign number world did)
grows_by_sign number world did = grind (arith, on_left, option_to_list)

grows_by_centre : (world : WorldModel) (move : Move) → Grows world (by_centre world move)
grows_by_centre world move = grind (arith, on_left, option_to_list)

grows_at_sign : (number : ℕ) (world : WorldModel) (o : Option (List ℕ)) → Grows world (at_sign number world o)
grows_at_sign number world o = grind (arith, grows_not, grows_by_sign)

grows_at_centre : (world : WorldModel) (o : Option (List ℕ)) → Grows world (at_centre world o)
grows_at_centre world o = grind (arith, grows_not, grows_by_centre)

grows_event : (number : ℕ) (world : WorldModel) (event : EventModel) → Grows world (happens number world event)
grows_event number world (command asked) = grows_by_centre world (commanded world.centre asked)
grows_event number world sign_tick = grows_not world (happens number world sign_tick) refl refl refl
grows_event number world centre_tick = grows_by_centre world (ticked world.centre)
grows_event number world (to_sign place) = grows_at_sign number world (slice_get world.to_sign place)
grows_event number world (to_centre place) = grows_at_centre world (slice_get world.to_centre place)
grows_event number world power_lost = grows_not world (happens number world power_lost) refl refl refl
grows_event number world (power_back seconds) = grows_not world (happens number world (power_back seconds)) refl refl refl
grows_event number world centre_restart = grows_not world (happens number world centre_restart) refl refl refl
grows_event number world (forge_sign datagram) = grows_at_sign number world (Some datagram)
grows_event number world (forge_centre datagram) = grows_at_centre world (Some datagram)

grows_if : (number : ℕ) (world : WorldModel) (o : Option EventModel) → Grows world (happens_if number world o)
grows_if number world o = grind (arith, grows_not, grows_event)

-- ---- any number of events

pub grows_step : (world : WorldModel) (events : List EventModel) (count : ℕ) → Grows (world_at world events count) (world_at world events (suc count))
grows_step world events count = grows_if (suc count) (world_at world events count) (slice_get events count)

grows_again : (a b c : WorldModel) → Grows a b → Grows b c → Grows a c
grows_again a b c first second = grind arith

pub grows_until : (world : WorldModel) (events : List EventModel) (count later : ℕ) → count ≤ later
    → Grows (world_at world events count) (world_at world events later)
grows_until world events count zero le = grind (arith, grows_not, cases_lt, grows_again, grows_step)
grows_until world events count (suc later) le =
    elim (cases_lt later count) [
      | inl now ↦
          (let same : count ≡ suc later = omega (arith, le, now) in
          subst (λ n. Grows (world_at world events count) (world_at world events n)) same
          (grows_not (world_at world events count) (world_at world events count) refl refl refl))
      | inr before ↦
          grows_again (world_at world events count) (world_at world events later) (world_at world events (suc later))
          (grows_until world events count later before) (grows_step world events later)
    ]

-- ---- numbers that were taken

next_if : (history : History) (o : Option Input) → HistoryIsKept history → IsInputIf o → history.state.next ≤ (after_if history o).state.next
next_if history None kept is = omega arith
next_if history (Some input) kept is =
    next_grows history.state.settings history.state.next history.sent (move_at history.state input) (keeps_input history input kept.numbered is).sends

pub next_step : (world : WorldModel) (events : List EventModel) → IsFresh world → AreEvents events → (count : ℕ)
    → (world_at world events count).centre.next ≤ (world_at world events (suc count)).centre.next
next_step world events fresh are count = grind (arith, moves_at, next_if, history_of, input_after, kept_at, is_input_after)

pub next_until : (world : WorldModel) (events : List EventModel) → IsFresh world → AreEvents events → (count later : ℕ) → count ≤ later
    → (world_at world events count).centre.next ≤ (world_at world events later).centre.next
next_until world events fresh are count zero le = grind (arith, cases_lt, next_step)
next_until world events fresh are count (suc later) le =
    elim (cases_lt later count) [
      | inl now ↦
          (let same : count ≡ suc later = omega (arith, le, now) in
          subst (λ n. (world_at world events count).centre.next ≤ (world_at world events n).centre.next) same (omega arith))
      | inr before ↦ omega (arith, next_until world events fresh are count later before, next_step world events fresh are later)
    ]

-- A datagram whose number had been taken before the move was there before it.
there_by : (settings : SettingsModel) (next : ℕ) (sent : List (List ℕ)) (move : Move) (number : ℕ) → Sends settings next sent move → number < next
    → (place : ℕ) (datagram : List ℕ) → slice_get (sent ++ option_to_list move.sent) place ≡ Some datagram → HasNumber number datagram → Has sent datagram
there_by settings next sent move number (Nothing none same) less place datagram e has = grind (arith, slice_get, option_to_list, append-nil, in_push, one_number, request_number)
there_by settings next sent move number (Again octets k out there same) less place datagram e has = grind (arith, slice_get, option_to_list, append-nil, in_push, one_number, request_number)
there_by settings next sent move number (New octets out is more) less place datagram e has =
    elim (in_push sent octets place datagram (subst (λ o. slice_get (sent ++ option_to_list o) place ≡ Some datagram) out e)) [
      | inl old ↦ (place, old)
      | inr last ↦
          (let same = one_number number next datagram has (subst (HasNumber next) last.1 (request_number settings next octets is)) in
          absurd (omega (arith, same, less)))
    ]

there_if : (history : History) (o : Option Input) (number : ℕ) → HistoryIsKept history → IsInputIf o → number < history.state.next
    → (place : ℕ) (datagram : List ℕ) → slice_get (after_if history o).sent place ≡ Some datagram → HasNumber number datagram → Has history.sent datagram
there_if history None number kept is less place datagram e has = (place, e)
there_if history (Some input) number kept is less place datagram e has =
    there_by history.state.settings history.state.next history.sent (move_at history.state input) number
    (keeps_input history input kept.numbered is).sends less place datagram e has

pub there_step : (world : WorldModel) (events : List EventModel) → IsFresh world → AreEvents events → (count number : ℕ)
    → number < (world_at world events count).centre.next → (datagram : List ℕ) → Has (world_at world events (suc count)).to_sign datagram
    → HasNumber number datagram → Has (world_at world events count).to_sign datagram
there_step world events fresh are count number less datagram there has =
    there_if (history_of (world_at world events count)) (input_after world events count) number (kept_at world events fresh are count).kept
    (is_input_after world events count are) less there.0 datagram
    (subst (λ (history : History). slice_get history.sent there.0 ≡ Some datagram) (moves_at world events count) there.1) has

-- What is ever sent with a number that had been taken had been sent by then.
pub there_before : (world : WorldModel) (events : List EventModel) → IsFresh world → AreEvents events → (count later number : ℕ) → count ≤ later
    → number < (world_at world events count).centre.next → (datagram : List ℕ) → Has (world_at world events later).to_sign datagram
    → HasNumber number datagram → Has (world_at world events count).to_sign datagram
there_before world events fresh are count zero number le less datagram there has = grind (arith, cases_lt, there_step, next_until)
there_before world events fresh are count (suc later) number le less datagram there has =
    elim (cases_lt later count) [
      | inl now ↦
          (let same : suc later ≡ count = omega (arith, le, now) in
          subst (λ n. Has (world_at world events n).to_sign datagram) same there)
      | inr before ↦
          there_before world events fresh are count later number before less datagram
          (there_step world events fresh are later number (omega (arith, less, next_until world events fresh are count later before)) datagram there has) has
    ]
