-- What the code's calls are (this profile).
use Rattle.dms_sign_lines.specs.SignCall as model
use Rattle.dms_sign_lines.specs.declared.sign_call.SignCall.{SignCall}
use Rattle.dms_sign_lines.specs.declared.sign_call.SignCall.TheVariants as calls

abbrev pub call_model : SignCall → model.SignCall
call_model (calls.Datagram octets) = model.datagram octets.items
call_model calls.Tick = model.tick
call_model (calls.Ticks seconds) = model.ticks seconds
call_model calls.Heard = model.heard
call_model calls.PowerLost = model.power_lost
call_model (calls.PowerBack seconds) = model.power_back seconds
call_model calls.Show = model.show
call_model calls.State = model.state
call_model calls.Save = model.save
