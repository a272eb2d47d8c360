-- What the code's events and worlds say (this profile).
use Rattle.std.specs.Prelude.{◌≡◌, ℕ, List, ◌++◌, map, take, codes, decimal, vec_capacity, Result, Ok, Err}
use Rattle.dms_centre_jobs.specs.CodeView.{command_model}
use Rattle.dms_world.specs.declared.event.Event.{Event}
use Rattle.dms_world.specs.declared.event.Event.TheVariants as events
use Rattle.dms_world.specs.declared.world.World.{World}
use Rattle.dms_world.specs.declared.running.Stopped.{Stopped}
use Rattle.dms_world.specs.Event.{EventModel, command, sign_tick, centre_tick, to_sign, to_centre, power_lost}
use Rattle.dms_world.specs.Event.{power_back, centre_restart, forge_sign, forge_centre}
use Rattle.dms_world.specs.World.{WorldModel}

abbrev pub event_model : Event → EventModel
event_model (events.Command asked) = command (command_model asked)
event_model events.SignTick = sign_tick
event_model events.CentreTick = centre_tick
event_model (events.ToSign place) = to_sign place
event_model (events.ToCentre place) = to_centre place
event_model events.PowerLost = power_lost
event_model (events.PowerBack seconds) = power_back seconds
event_model events.CentreRestart = centre_restart
event_model (events.ForgeSign datagram) = forge_sign datagram.now
event_model (events.ForgeCentre datagram) = forge_centre datagram.now

abbrev pub events_model : List Event → List EventModel
events_model events = map event_model events

-- what a world of the code says
abbrev pub seen : World → WorldModel
seen world = record {
  sign = world.sign;
  centre = world.centre.state;
  to_sign = world.to_sign.sent;
  to_centre = world.to_centre.sent;
  accepted = world.accepted.items;
}

-- no list of the world has memory
pub record HasNoMemory (world : World) : Type 0 where
  pub to_sign : world.to_sign.memory ≡ 0
  pub to_centre : world.to_centre.memory ≡ 0
  pub accepted : vec_capacity world.accepted ≡ 0

-- the events that happened: all of them, or those before the one at which the run stopped
abbrev pub happened : Result (Unit {0}) Stopped → List Event → List EventModel
happened (Ok all) events = events_model events
happened (Err stopped) events = take stopped.done (events_model events)

-- what a run that stopped prints
abbrev pub stopped_text : Stopped → List ℕ
stopped_text stopped = codes "out of memory after " ++ decimal stopped.done ++ codes " events"
