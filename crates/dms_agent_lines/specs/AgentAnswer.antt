-- What a live sign answers to a line, with the objects beside it, and what both are afterwards (this profile). Each
-- line of an answer ends in a newline.
use Rattle.std.specs.Prelude.{ℕ, if◌then◌else◌, false, not, List, [], ◌∷◌, ◌++◌, map, codes, Option, Some, None}
use Rattle.std.specs.Prelude.{is_some, option_map}
use Rattle.std.specs.List.{flat_map, find}
use Rattle.dms_wire.specs.Message.{ObjectValue, VarBind}
use Rattle.dms_codes.specs.declared.codes.Order.{Order}
use Rattle.dms_device.specs.declared.access.ManagerAccess.{ManagerAccess}
use Rattle.dms_device.specs.Object.{DeviceObject, admits, fits}
use Rattle.dms_device.specs.Objects.{has_name, device_value}
use Rattle.dms_device.specs.Publishing.{published, withdrawn}
use Rattle.dms_device.specs.Taken.{told}
use Rattle.dms_agent.specs.declared.agent.Agent.{Agent}
use Rattle.dms_agent.specs.Values.{own_value, is_bare, showing_fonts}
use Rattle.dms_agent.specs.Received.{AgentReceived, agent_received}
use Rattle.dms_text_forms.specs.LineText.{ended}
use Rattle.dms_text_streams.specs.Conversation.{bad_line, ok_line}
use Rattle.dms_agent_state.specs.AgentText.{value_line, text_of_agent}
use Rattle.dms_agent_state.specs.PutBack.{with_values}
use Rattle.dms_sign_lines.specs.Answer as sign
use Rattle.dms_agent_lines.specs.AgentCall.{AgentCall, NewObject, receive, publish, withdraw, show_fonts, tell}
use Rattle.dms_agent_lines.specs.AgentCall.{put_back, save}
use Rattle.dms_agent_lines.specs.AgentForm.{call_cause, bad_line_text}
use Rattle.dms_agent_lines.specs.AgentReading.{call_of}
use Rattle.dms_agent_lines.specs.declared.cause.AgentCallCause.{AgentCallCause}
use Rattle.dms_agent_lines.specs.declared.cause.AgentCallCause.TheVariants as causes

-- ---- parts of answers

abbrev pub refused : List ℕ → List ℕ
refused why = ended (codes "refused " ++ why)

abbrev pub received_text : Order → AgentReceived → List ℕ
received_text order received = sign.receipt_line order received.reply received.accepted

-- the line of an object that a manager set, and nothing of another
abbrev pub set_line : DeviceObject → List ℕ
set_line object = if object.is_set then value_line object.name object.value else []

abbrev pub set_lines : List DeviceObject → List ℕ
set_lines objects = flat_map set_line objects

-- ---- publishing

-- why an object is not published: the first of these
abbrev pub publish_refusal : Agent → NewObject → Option (List ℕ)
publish_refusal a object =
    if not (fits object.access object.value) then Some (codes "the value is not one that its access takes")
    else if is_some (own_value a object.name) then Some (codes "the sign has an object of this name")
    else None

abbrev pub refused_or_ok : Option (List ℕ) → List ℕ
refused_or_ok None = ok_line
refused_or_ok (Some why) = refused why

abbrev pub publish_text : Agent → NewObject → List ℕ
publish_text a object = refused_or_ok (publish_refusal a object)

-- the object as it is published: its value is no manager's
abbrev pub made : NewObject → DeviceObject
made object = record {
  name = object.name;
  value = object.value;
  access = object.access;
  is_set = false;
  by_manager = false;
}

abbrev pub published_unless : Agent → NewObject → Option (List ℕ) → Agent
published_unless a object None = record a { device = published a.device (made object) }
published_unless a object (Some why) = a

abbrev pub after_publish : Agent → NewObject → Agent
after_publish a object = published_unless a object (publish_refusal a object)

-- ---- withdrawing

abbrev pub withdraw_text : Agent → List ℕ → List ℕ
withdraw_text a name =
    if is_some (device_value a.device name) then ok_line else refused (codes "there is no object of this name")

abbrev pub after_withdraw : Agent → List ℕ → Agent
after_withdraw a name =
    if is_some (device_value a.device name) then record a { device = withdrawn a.device name } else a

-- ---- fonts

abbrev pub fonts_text : Agent → List ℕ
fonts_text a = if is_bare a then ok_line else refused (codes "objects are published already")

-- ---- putting values back

-- what a manager may write to the object of a name
abbrev pub access_of : List DeviceObject → List ℕ → Option ManagerAccess
access_of objects name = option_map (λ (object : DeviceObject). object.access) (find (has_name name) objects)

-- why an object does not get a value, by what a manager may write to it
abbrev pub value_refusal : Option ManagerAccess → ObjectValue → Option (List ℕ)
value_refusal None value = Some (codes "there is no object of this name")
value_refusal (Some access) value =
    if admits access value then None else Some (codes "the object does not take this value")

abbrev pub put_refusal : Agent → VarBind → Option (List ℕ)
put_refusal a binding = value_refusal (access_of a.device binding.name) binding.value

abbrev pub put_text : Agent → VarBind → List ℕ
put_text a binding = refused_or_ok (put_refusal a binding)

-- the object has the value as if a manager had set it now
abbrev pub put_unless : Agent → VarBind → Option (List ℕ) → Agent
put_unless a binding None = with_values a (binding ∷ [])
put_unless a binding (Some why) = a

abbrev pub after_put : Agent → VarBind → Agent
after_put a binding = put_unless a binding (put_refusal a binding)

-- ---- calls

abbrev pub call_text : Agent → AgentCall → List ℕ
call_text a (receive octets) = received_text a.sign.table.order (agent_received a octets)
call_text a (publish object) = publish_text a object
call_text a (withdraw name) = withdraw_text a name
call_text a show_fonts = fonts_text a
call_text a tell = set_lines a.device ++ ok_line
call_text a (put_back binding) = put_text a binding
call_text a save = text_of_agent a ++ ok_line

abbrev pub after_call : Agent → AgentCall → Agent
after_call a (receive octets) = (agent_received a octets).after
after_call a (publish object) = after_publish a object
after_call a (withdraw name) = after_withdraw a name
after_call a show_fonts = showing_fonts a
after_call a tell = record a { device = map told a.device }
after_call a (put_back binding) = after_put a binding
after_call a save = a

-- ---- lines that are no call

-- one that begins with none of these words is the sign's; of another it is told why it is no call
abbrev pub text_without : Agent → List ℕ → AgentCallCause → List ℕ
text_without a line causes.Keyword = sign.answer_text a.sign line
text_without a line cause = bad_line_text cause

abbrev pub after_without : Agent → List ℕ → AgentCallCause → Agent
after_without a line causes.Keyword = record a { sign = sign.after_line a.sign line }
after_without a line cause = a

-- ---- lines

-- a line is a call, or has a cause (`each_line_is_a_call_or_has_a_cause`): the last case never comes
abbrev pub text_if : Agent → List ℕ → Option AgentCall → Option AgentCallCause → List ℕ
text_if a line (Some call) cause = call_text a call
text_if a line None (Some cause) = text_without a line cause
text_if a line None None = bad_line

abbrev pub after_if : Agent → List ℕ → Option AgentCall → Option AgentCallCause → Agent
after_if a line (Some call) cause = after_call a call
after_if a line None (Some cause) = after_without a line cause
after_if a line None None = a

-- the answer to a line
abbrev pub answer_text : Agent → List ℕ → List ℕ
answer_text a line = text_if a line (call_of line) (call_cause line)

-- the sign and the objects after a line
abbrev pub after_line : Agent → List ℕ → Agent
after_line a line = after_if a line (call_of line) (call_cause line)

-- the sign and the objects after lines that are handed over one by one
abbrev pub after_lines : Agent → List (List ℕ) → Agent
after_lines a [] = a
after_lines a (line ∷ more) = after_lines (after_line a line) more
