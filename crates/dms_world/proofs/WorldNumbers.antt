-- The numbers of the requests to a sign, and the entries that they belong to, after any events.
use Rattle.std.proofs.Common.{◌≡◌, ℕ, zero, suc, List, Option, Some, None, length, refl, sym, ◌∙◌, subst, arith}
use Rattle.dms_centre_jobs.specs.Job.{SettingsModel, Job}
use Rattle.dms_centre.specs.State.{Pending, Awaits}
use Rattle.dms_centre.specs.History.{Input, History}
use Rattle.dms_centre_laws.specs.RequestNumbers.{AreRequests, EqualNumbersMeanEqualOctets, ThreeSendsAtMost}
use Rattle.dms_centre_laws.specs.Numbered.{IsOut}
use Rattle.dms_centre_laws.specs.Ledger.{LedgerIsSent, NumbersPutUpTheirCodes}
use Rattle.dms_centre_laws.proofs.Keeping.{keeps_input}
use Rattle.dms_centre_laws.proofs.LedgerLaws.{HistoryIsKept, is_kept_made, is_kept_input, put_up_by}
use Rattle.dms_world.specs.Event.{EventModel}
use Rattle.dms_world.specs.World.{WorldModel, world_at, IsFresh}
use Rattle.dms_world.specs.Headline.{AreEvents}
use Rattle.dms_world.specs.Honest.{RequestsAgree}
use Rattle.dms_world.proofs.WorldInputs.{history_of, after_if, input_after, moves_at, IsInputIf, is_input_after, fresh_settings, fresh_history}

-- ---- what is kept up

-- the centre keeps up what it does, under the settings that it was made with
pub record IsKeptUnder (settings : SettingsModel) (history : History) : Type 0 where
  pub kept : HistoryIsKept history
  pub settings_are : history.state.settings ≡ settings

kept_if : (settings : SettingsModel) (history : History) (o : Option Input) → IsKeptUnder settings history → IsInputIf o → IsKeptUnder settings (after_if history o)
kept_if settings history None under is = under
kept_if settings history (Some input) under is = record {
  kept = is_kept_input history input under.kept is;
  settings_are = (keeps_input history input under.kept.numbered is).settings_stay ∙ under.settings_are;
}

kept_fresh : (world : WorldModel) → IsFresh world → IsKeptUnder world.centre.settings (history_of world)
kept_fresh world fresh = record {
  kept = subst HistoryIsKept (sym (fresh_history world fresh)) (is_kept_made fresh.settings fresh.first (fresh_settings world fresh));
  settings_are = refl;
}

pub kept_at : (world : WorldModel) (events : List EventModel) → IsFresh world → AreEvents events → (count : ℕ)
    → IsKeptUnder world.centre.settings (history_of (world_at world events count))
kept_at world events fresh are zero = kept_fresh world fresh
kept_at world events fresh are (suc count) =
    subst (IsKeptUnder world.centre.settings) (sym (moves_at world events count))
    (kept_if world.centre.settings (history_of (world_at world events count)) (input_after world events count)
    (kept_at world events fresh are count) (is_input_after world events count are))

-- ---- after so many events

pub settings_at : (world : WorldModel) (events : List EventModel) → IsFresh world → AreEvents events → (count : ℕ)
    → (world_at world events count).centre.settings ≡ world.centre.settings
settings_at world events fresh are count = (kept_at world events fresh are count).settings_are

-- each datagram to the sign spells a request, whose number is below the next one
pub requests_at : (world : WorldModel) (events : List EventModel) → IsFresh world → AreEvents events → (count : ℕ)
    → AreRequests world.centre.settings (world_at world events count).centre.next (world_at world events count).to_sign
requests_at world events fresh are count = grind (arith, settings_at, kept_at)

-- datagrams of one number are the same octets
pub same_at : (world : WorldModel) (events : List EventModel) → IsFresh world → AreEvents events → (count : ℕ)
    → EqualNumbersMeanEqualOctets (world_at world events count).to_sign
same_at world events fresh are count = (kept_at world events fresh are count).kept.numbered.same

pub few_at : (world : WorldModel) (events : List EventModel) → IsFresh world → AreEvents events → (count : ℕ)
    → ThreeSendsAtMost (world_at world events count).to_sign
few_at world events fresh are count = (kept_at world events fresh are count).kept.numbered.few

-- the request that waits was sent, and has the newest number
pub waiting_at : (world : WorldModel) (events : List EventModel) → IsFresh world → AreEvents events → (count : ℕ) (job : Job) (pending : Pending)
    → (world_at world events count).centre.phase ≡ Awaits job pending
    → IsOut world.centre.settings (world_at world events count).centre.next pending (world_at world events count).to_sign
waiting_at world events fresh are count job pending e = grind (arith, kept_at, settings_at)

-- the entries have numbers below the next one, which rise, and the request of each was sent
pub entries_at : (world : WorldModel) (events : List EventModel) → IsFresh world → AreEvents events → (count : ℕ)
    → LedgerIsSent world.centre.settings (world_at world events count).centre.next (world_at world events count).centre.ledger (world_at world events count).to_sign
entries_at world events fresh are count = grind (arith, settings_at, kept_at)

-- each datagram of an entry's number puts the entry's code up
pub codes_at : (world : WorldModel) (events : List EventModel) → IsFresh world → AreEvents events → (count : ℕ)
    → NumbersPutUpTheirCodes world.centre.settings (world_at world events count).centre.ledger (world_at world events count).to_sign
codes_at world events fresh are count =
    let at = world_at world events count in
    put_up_by world.centre.settings at.centre.next at.centre.ledger at.to_sign (entries_at world events fresh are count) (same_at world events fresh are count)

-- ---- the law

pub requests_agree : (world : WorldModel) (events : List EventModel) → IsFresh world → AreEvents events → RequestsAgree world events
requests_agree world events fresh are = record { same = same_at world events fresh are (length events); few = few_at world events fresh are (length events) }
