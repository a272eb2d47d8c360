-- A run of events in a world, one after another.
use Rattle.std.proofs.Common.{◌≡◌, ℕ, zero, suc, ◌+◌, ◌<◌, ◌≤◌, true, false, List, [], ◌∷◌, ◌++◌, length, get_or, take, Some, option_map, Result, OnOk, OnErr, slice_get, refl, sym, ap, ◌∙◌, arith}
use Rattle.std.specs.Prelude.{is_err}
use Rattle.std.proofs.lemmas.Option.{none-some, slice_get_within, slice_get-map, slice_get-get_or}
use Rattle.std.proofs.lemmas.List.{length-append, length-map, length-take-le}
use Rattle.dms_centre_laws.proofs.Lists.{at_end}
use Rattle.dms_world.specs.declared.event.Event.{Event}
use Rattle.dms_world.specs.CodeView.{event_model, events_model}
use Rattle.dms_world.specs.Event.{EventModel, command}
use Rattle.dms_world.specs.World.{WorldModel, happens, world_at, world_after}
use Rattle.dms_world.specs.Growing.{may_grow, StopsAt}
use Rattle.dms_world.specs.Headline.{IsEvent, AreEvents}

-- ---- results

pub on_err : {A E : Type 0} (result : Result A E) (P : Type 0) → is_err result ≡ true → OnErr result P → P
on_err result P e is = grind arith

pub on_ok : {A E : Type 0} (result : Result A E) (P : Type 0) → is_err result ≡ false → OnOk result P → P
on_ok result P e is = grind arith

-- ---- events

pub event_at : (events : List Event) (place : ℕ) (otherwise : Event) → place < length events
    → slice_get (events_model events) place ≡ Some (event_model (get_or events place otherwise))
event_at events place otherwise within = slice_get-map event_model events place ∙ ap (option_map event_model) (slice_get-get_or events place otherwise within)

pub within_events : (events : List Event) (count : ℕ) → count < length events → count ≤ length (events_model events)
within_events events count within = omega (arith, length-map events event_model, within)

-- the event at which a run stops may want memory
pub stops_at : (before now : WorldModel) (events : List Event) (count : ℕ) (otherwise : Event) → count < length events → now ≡ before
    → may_grow before (event_model (get_or events count otherwise)) ≡ true → StopsAt now (events_model events) count
stops_at before now events count otherwise within same grows = grind (arith, get_or, event_at)

-- ---- the world

-- one event more
pub one_more_event : (before now next : WorldModel) (events : List EventModel) (count : ℕ) (event : EventModel)
    → now ≡ world_at before events count → slice_get events count ≡ Some event → next ≡ happens (count + 1) now event
    → next ≡ world_at before events (count + 1)
one_more_event before now next events count event is at then = grind arith

-- what stands at a place of a prefix stands there
in_prefix : {X : Type 0} (n : ℕ) (xs : List X) (place : ℕ) (x : X) → slice_get (take n xs) place ≡ Some x → (place < n) × (slice_get xs place ≡ Some x)
in_prefix zero xs place x e = absurd (none-some x e)
in_prefix (suc n) [] place x e = absurd (none-some x e)
in_prefix (suc n) (y ∷ xs) zero x e = (omega arith, e)
in_prefix (suc n) (y ∷ xs) (suc place) x e = let there = in_prefix n xs place x e in (omega (arith, there.0), there.1)

of_prefix : {X : Type 0} (n : ℕ) (xs : List X) (place : ℕ) → place < n → slice_get (take n xs) place ≡ slice_get xs place
of_prefix zero xs place less = absurd (omega (arith, less))
of_prefix (suc n) [] place less = refl
of_prefix (suc n) (y ∷ xs) zero less = refl
of_prefix (suc n) (y ∷ xs) (suc place) less = of_prefix n xs place (omega (arith, less))

world_of_prefix : (world : WorldModel) (events : List EventModel) (n count : ℕ) → count ≤ n → world_at world (take n events) count ≡ world_at world events count
world_of_prefix world events n zero le = refl
world_of_prefix world events n (suc count) le = grind (arith, slice_get, of_prefix, world_of_prefix world events n count (omega (arith, le)))

-- the world after the first events is that of their list
pub after_prefix : (world : WorldModel) (events : List EventModel) (count : ℕ) → count ≤ length events
    → world_at world events count ≡ world_after world (take count events)
after_prefix world events count le = grind (arith, length-take-le, world_of_prefix)

first_ones : {X : Type 0} (xs ys : List X) → take (length xs) (xs ++ ys) ≡ xs
first_ones [] ys = refl
first_ones (x ∷ xs) ys = ap (λ rest. x ∷ rest) (first_ones xs ys)

-- the world after a list of events and one more is that of the list, in which that one has happened
pub after_one_more : (world : WorldModel) (events : List EventModel) (event : EventModel)
    → world_after world (events ++ event ∷ []) ≡ happens (length events + 1) (world_after world events) event
after_one_more world events event =
    let all : List EventModel = events ++ event ∷ [] in
    let size : length all ≡ length events + 1 = omega (arith, length-append events (event ∷ [])) in
    let before : world_after world events ≡ world_at world all (length events) =
    sym (after_prefix world all (length events) (omega (arith, size)) ∙ ap (world_after world) (first_ones events (event ∷ []))) in
    ap (world_at world all) size
    ∙ sym (one_more_event world (world_after world events) (happens (length events + 1) (world_after world events) event) all (length events) event before (at_end events event) refl)

-- ---- the values of commands

-- those of the first events are in range
abbrev pub AreEventsUpTo : List EventModel → ℕ → Type 0
AreEventsUpTo events count = (place : ℕ) (event : EventModel) → place < count → slice_get events place ≡ Some event → IsEvent event

pub one_more_is_event : (events : List EventModel) (count : ℕ) (event : EventModel) → AreEventsUpTo events count → slice_get events count ≡ Some event
    → IsEvent event → AreEventsUpTo events (count + 1)
one_more_is_event events count event are at is = grind arith

pub prefix_are_events : (events : List EventModel) (count : ℕ) → AreEventsUpTo events count → AreEvents (take count events)
prefix_are_events events count are = λ asked has.
    let there = in_prefix count events has.0 (command asked) has.1 in
    are has.0 (command asked) there.0 there.1

pub are_all_events : (events : List Event) (count : ℕ) → length events ≤ count → AreEventsUpTo (events_model events) count
    → AreEventsUpTo (events_model events) (length (events_model events))
are_all_events events count all are = λ place event less there. are place event (omega (arith, less, length-map events event_model, all)) there

pub all_are_events : (events : List EventModel) → AreEventsUpTo events (length events) → AreEvents events
all_are_events events are = λ asked has. are has.0 (command asked) (slice_get_within events has.0 (command asked) has.1) has.1
