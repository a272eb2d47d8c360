-- What the code's calls are (this profile).
use Rattle.dms_centre_text.specs.CommandView.{owned_command_model}
use Rattle.dms_centre_lines.specs.Calls as model
use Rattle.dms_centre_lines.specs.declared.reading.CentreCall.{CentreCall}
use Rattle.dms_centre_lines.specs.declared.reading.CentreCall.TheVariants as calls

abbrev pub call_model : CentreCall → model.CentreCall
call_model (calls.Command asked) = model.command (owned_command_model asked)
call_model (calls.Datagram octets) = model.datagram octets.items
call_model calls.Tick = model.tick
call_model calls.Restart = model.restart
call_model calls.Status = model.status
call_model calls.StatusLast = model.status_last
call_model calls.Save = model.save
