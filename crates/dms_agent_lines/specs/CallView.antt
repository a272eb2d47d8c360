-- What the code's calls are (this profile).
use Rattle.dms_agent_lines.specs.AgentCall as model
use Rattle.dms_agent_lines.specs.declared.agent_call.AgentCall.{AgentCall}
use Rattle.dms_agent_lines.specs.declared.agent_call.AgentCall.TheVariants as calls

abbrev pub call_model : AgentCall → model.AgentCall
call_model (calls.Receive octets) = model.receive octets.items
call_model (calls.Publish object) = model.publish object
call_model (calls.Withdraw name) = model.withdraw name
call_model calls.ShowFonts = model.show_fonts
call_model calls.Tell = model.tell
call_model (calls.PutBack binding) = model.put_back binding
call_model calls.Save = model.save
