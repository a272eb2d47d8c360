-- When a request was first sent.
use Rattle.std.proofs.Common.{ℕ, zero, suc, ◌<◌, ◌≤◌, inl, inr, List, arith}
use Rattle.std.proofs.lemmas.Bool.{cases_lt}
use Rattle.dms_centre_laws.specs.RequestNumbers.{HasNumber}
use Rattle.dms_centre_laws.proofs.Numbers.{below_next}
use Rattle.dms_world.specs.Event.{EventModel}
use Rattle.dms_world.specs.World.{WorldModel, world_at, IsFresh}
use Rattle.dms_world.specs.Backed.{Has}
use Rattle.dms_world.specs.Headline.{AreEvents}
use Rattle.dms_world.specs.Honest.{WasSent, IsSentAt}
use Rattle.dms_world.proofs.WorldNumbers.{requests_at}
use Rattle.dms_world.proofs.WorldGrows.{grows_until, there_before}

-- ---- the first moment

was_sent : (world : WorldModel) (events : List EventModel) (number count : ℕ) (datagram : List ℕ) → Has (world_at world events count).to_sign datagram
    → HasNumber number datagram → WasSent world events number count
was_sent world events number count datagram there has = record { datagram = datagram; there = there; has_number = has }

-- what was sent was sent later too
pub sent_later : (world : WorldModel) (events : List EventModel) (number count later : ℕ) → count ≤ later → WasSent world events number count
    → WasSent world events number later
sent_later world events number count later le sent = record {
  datagram = sent.datagram;
  there = (sent.there.0, (grows_until world events count later le).to_sign sent.there.0 sent.datagram sent.there.1);
  has_number = sent.has_number;
}

-- a number that was sent is below the next one
pub sent_below : (world : WorldModel) (events : List EventModel) → IsFresh world → AreEvents events → (number count : ℕ) → WasSent world events number count
    → number < (world_at world events count).centre.next
sent_below world events fresh are number count sent =
    let at = world_at world events count in
    below_next world.centre.settings at.centre.next number sent.there.0 at.to_sign sent.datagram (requests_at world events fresh are count) sent.there.1
    sent.has_number

-- a number that had been taken had been sent, if it ever is
pub sent_before : (world : WorldModel) (events : List EventModel) → IsFresh world → AreEvents events → (number count later : ℕ) → count ≤ later
    → number < (world_at world events count).centre.next → WasSent world events number later → WasSent world events number count
sent_before world events fresh are number count later le less sent =
    was_sent world events number count sent.datagram (there_before world events fresh are count later number le less sent.datagram sent.there sent.has_number) sent.has_number

-- none with a number that is not taken
not_sent_before : (world : WorldModel) (events : List EventModel) → IsFresh world → AreEvents events → (number count fewer : ℕ)
    → (world_at world events count).centre.next ≤ number → WasSent world events number fewer → suc count ≤ fewer
not_sent_before world events fresh are number count fewer none sent =
    elim (cases_lt count fewer) [
      | inl more ↦ omega (arith, more)
      | inr less ↦ absurd (omega (arith, none, sent_below world events fresh are number count (sent_later world events number fewer count less sent)))
    ]

pub first_sent : (world : WorldModel) (events : List EventModel) → IsFresh world → AreEvents events → (number count : ℕ) → WasSent world events number count
    → (first : ℕ) × (first ≤ count) × IsSentAt world events number first
first_sent world events fresh are number zero sent = (zero, omega arith, record { sent = sent; least = λ fewer other. omega arith })
first_sent world events fresh are number (suc count) sent =
    elim (cases_lt number (world_at world events count).centre.next) [
      | inl taken ↦
          (let earlier = first_sent world events fresh are number count (sent_before world events fresh are number count (suc count) (omega arith) taken sent) in
          (earlier.0, omega (arith, earlier.1), earlier.2))
      | inr none ↦
          (suc count, omega arith, record { sent = sent; least = λ fewer other. not_sent_before world events fresh are number count fewer none other })
    ]
