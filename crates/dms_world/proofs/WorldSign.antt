-- What each event keeps of a sign holds of it after all events.
use Rattle.std.proofs.Common.{ℕ, zero, suc, List, Option, Some, None, slice_get, arith}
use Rattle.dms_sign.specs.State.{SignState}
use Rattle.dms_sign.specs.Reply.{received}
use Rattle.dms_sign.specs.Events.{after_tick, after_power_loss, after_power_return}
use Rattle.dms_world.specs.Event.{EventModel, command, sign_tick, centre_tick, to_sign, to_centre, power_lost, power_back, centre_restart, forge_sign, forge_centre}
use Rattle.dms_world.specs.World.{WorldModel, at_sign, at_centre, happens, happens_if, world_at}

-- each thing that can come to a sign keeps it
pub record EachEventKeeps (P : SignState → Type 0) : Type 0 where
  pub datagram : (s : SignState) (octets : List ℕ) → P s → P (received s octets).after
  pub tick : (s : SignState) → P s → P (after_tick s)
  pub power_loss : (s : SignState) → P s → P (after_power_loss s)
  pub power_return : (s : SignState) (seconds : ℕ) → P s → P (after_power_return s seconds)

kept_at_sign : (P : SignState → Type 0) → EachEventKeeps P → (number : ℕ) (world : WorldModel) (o : Option (List ℕ)) → P world.sign → P (at_sign number world o).sign
kept_at_sign P kept number world None is = is
kept_at_sign P kept number world (Some datagram) is = kept.datagram world.sign datagram is

kept_at_centre : (P : SignState → Type 0) (world : WorldModel) (o : Option (List ℕ)) → P world.sign → P (at_centre world o).sign
kept_at_centre P world o is = grind arith

kept_event : (P : SignState → Type 0) → EachEventKeeps P → (number : ℕ) (world : WorldModel) (event : EventModel) → P world.sign → P (happens number world event).sign
kept_event P kept number world (command asked) is = is
kept_event P kept number world sign_tick is = kept.tick world.sign is
kept_event P kept number world centre_tick is = is
kept_event P kept number world (to_sign place) is = kept_at_sign P kept number world (slice_get world.to_sign place) is
kept_event P kept number world (to_centre place) is = kept_at_centre P world (slice_get world.to_centre place) is
kept_event P kept number world power_lost is = kept.power_loss world.sign is
kept_event P kept number world (power_back seconds) is = kept.power_return world.sign seconds is
kept_event P kept number world centre_restart is = is
kept_event P kept number world (forge_sign datagram) is = kept_at_sign P kept number world (Some datagram) is
kept_event P kept number world (forge_centre datagram) is = kept_at_centre P world (Some datagram) is

kept_if : (P : SignState → Type 0) → EachEventKeeps P → (number : ℕ) (world : WorldModel) (o : Option EventModel) → P world.sign → P (happens_if number world o).sign
kept_if P kept number world None is = is
kept_if P kept number world (Some event) is = kept_event P kept number world event is

pub kept_after : (P : SignState → Type 0) → EachEventKeeps P → (world : WorldModel) (events : List EventModel) → P world.sign → (count : ℕ) → P (world_at world events count).sign
kept_after P kept world events is zero = is
kept_after P kept world events is (suc count) =
    kept_if P kept (suc count) (world_at world events count) (slice_get events count) (kept_after P kept world events is count)
