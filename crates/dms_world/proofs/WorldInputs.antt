-- A world's centre has a history of inputs: each event gives it one at most.
use Rattle.std.proofs.Common.{◌≡◌, ℕ, suc, List, Option, Some, None, option_map, slice_get, refl, ap, append-nil, arith}
use Rattle.dms_centre_jobs.specs.Commands.{CommandModel, IsCommand}
use Rattle.dms_centre.specs.Inputs.{restarted}
use Rattle.dms_centre_jobs.specs.Requests.{AreSettings}
use Rattle.dms_centre.specs.History.{Input, Commands, Hears, Ticks, Restarts, IsInput, OfCommand, OfDatagram, OfTick, OfRestart, History, made, after_input}
use Rattle.dms_world.specs.Event.{EventModel, command, sign_tick, centre_tick, to_sign, to_centre, power_lost, power_back, centre_restart, forge_sign, forge_centre}
use Rattle.dms_world.specs.World.{WorldModel, at_sign, at_centre, with_centre, happens, happens_if, world_at, IsFresh}
use Rattle.dms_world.specs.Headline.{AreEvents}

abbrev pub history_of : WorldModel → History
history_of world = record { state = world.centre; sent = world.to_sign }

-- what an event gives the centre
abbrev pub input_at : WorldModel → EventModel → Option Input
input_at world (command asked) = Some (Commands asked)
input_at world sign_tick = None
input_at world centre_tick = Some Ticks
input_at world (to_sign place) = None
input_at world (to_centre place) = option_map Hears (slice_get world.to_centre place)
input_at world power_lost = None
input_at world (power_back seconds) = None
input_at world centre_restart = Some Restarts
input_at world (forge_sign datagram) = None
input_at world (forge_centre datagram) = Some (Hears datagram)

abbrev pub input_if : WorldModel → Option EventModel → Option Input
input_if world None = None
input_if world (Some event) = input_at world event

-- what the event after the first ones, so many of them, gives the centre
abbrev pub input_after : WorldModel → List EventModel → ℕ → Option Input
input_after world events count = input_if (world_at world events count) (slice_get events count)

abbrev pub after_if : History → Option Input → History
after_if history None = history
after_if history (Some input) = after_input history input

-- ---- one event

at_sign_moves : (number : ℕ) (world : WorldModel) (o : Option (List ℕ)) → history_of (at_sign number world o) ≡ history_of world
at_sign_moves number world o = grind arith

at_centre_moves : (world : WorldModel) (o : Option (List ℕ)) → history_of (at_centre world o) ≡ after_if (history_of world) (option_map Hears o)
at_centre_moves world o = grind arith

restart_moves : (world : WorldModel) → history_of (with_centre world (restarted world.centre)) ≡ after_input (history_of world) Restarts
restart_moves world = grind (arith, append-nil)

happens_moves : (number : ℕ) (world : WorldModel) (event : EventModel) → history_of (happens number world event) ≡ after_if (history_of world) (input_at world event)
happens_moves number world (command asked) = refl
happens_moves number world sign_tick = refl
happens_moves number world centre_tick = refl
happens_moves number world (to_sign place) = at_sign_moves number world (slice_get world.to_sign place)
happens_moves number world (to_centre place) = at_centre_moves world (slice_get world.to_centre place)
happens_moves number world power_lost = refl
happens_moves number world (power_back seconds) = refl
happens_moves number world centre_restart = restart_moves world
happens_moves number world (forge_sign datagram) = at_sign_moves number world (Some datagram)
happens_moves number world (forge_centre datagram) = refl

if_moves : (number : ℕ) (world : WorldModel) (o : Option EventModel) → history_of (happens_if number world o) ≡ after_if (history_of world) (input_if world o)
if_moves number world o = grind (arith, happens_moves)

-- each event leaves the history or adds one input to it
pub moves_at : (world : WorldModel) (events : List EventModel) (count : ℕ)
    → history_of (world_at world events (suc count)) ≡ after_if (history_of (world_at world events count)) (input_after world events count)
moves_at world events count = if_moves (suc count) (world_at world events count) (slice_get events count)

-- ---- the values of inputs

abbrev pub IsInputIf : Option Input → Type 0
IsInputIf None = Unit {0}
IsInputIf (Some input) = IsInput input

is_heard : (o : Option (List ℕ)) → IsInputIf (option_map Hears o)
is_heard None = tt
is_heard (Some datagram) = OfDatagram datagram

is_event_input : (world : WorldModel) (event : EventModel) → ((asked : CommandModel) → event ≡ command asked → IsCommand asked) → IsInputIf (input_at world event)
is_event_input world (command asked) is = OfCommand asked (is asked refl)
is_event_input world sign_tick is = tt
is_event_input world centre_tick is = OfTick
is_event_input world (to_sign place) is = tt
is_event_input world (to_centre place) is = is_heard (slice_get world.to_centre place)
is_event_input world power_lost is = tt
is_event_input world (power_back seconds) is = tt
is_event_input world centre_restart is = OfRestart
is_event_input world (forge_sign datagram) is = tt
is_event_input world (forge_centre datagram) is = OfDatagram datagram

is_input_if : (world : WorldModel) (events : List EventModel) (count : ℕ) (o : Option EventModel) → slice_get events count ≡ o → AreEvents events
    → IsInputIf (input_if world o)
is_input_if world events count o e are = grind (arith, is_event_input, slice_get)

pub is_input_after : (world : WorldModel) (events : List EventModel) (count : ℕ) → AreEvents events → IsInputIf (input_after world events count)
is_input_after world events count are = is_input_if (world_at world events count) events count (slice_get events count) refl are

-- ---- the beginning

pub fresh_settings : (world : WorldModel) (fresh : IsFresh world) → AreSettings fresh.settings
fresh_settings world fresh = fresh.are_settings

pub fresh_history : (world : WorldModel) (fresh : IsFresh world) → history_of world ≡ made fresh.settings fresh.first
fresh_history world fresh = ap history_of fresh.is_beginning
