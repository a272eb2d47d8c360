-- What the code's events are (this profile).
use Rattle.dms_world.specs.Event.{EventModel, command, sign_tick, centre_tick, to_sign, to_centre, power_lost}
use Rattle.dms_world.specs.Event.{power_back, centre_restart, forge_sign, forge_centre}
use Rattle.dms_centre_text.specs.CommandView.{owned_command_model}
use Rattle.dms_replay.specs.declared.script_event.ScriptEvent.{ScriptEvent}
use Rattle.dms_replay.specs.declared.script_event.ScriptEvent.TheVariants as script

-- the event that was read
abbrev pub script_event_model : ScriptEvent → EventModel
script_event_model (script.Command asked) = command (owned_command_model asked)
script_event_model script.SignTick = sign_tick
script_event_model script.CentreTick = centre_tick
script_event_model (script.ToSign place) = to_sign place
script_event_model (script.ToCentre place) = to_centre place
script_event_model script.PowerLost = power_lost
script_event_model (script.PowerBack seconds) = power_back seconds
script_event_model script.CentreRestart = centre_restart
script_event_model (script.ForgeSign datagram) = forge_sign datagram.items
script_event_model (script.ForgeCentre datagram) = forge_centre datagram.items
