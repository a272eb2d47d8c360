-- The state of an agent as text: that of its sign, and the values of objects that managers set (this profile). What is
-- published stands in none: it is firmware's to say.
use Rattle.std.specs.Prelude.{ℕ, if◌then◌else◌, List, [], ◌++◌, codes}
use Rattle.std.specs.List.{flat_map}
use Rattle.dms_wire_ber.specs.NameText.{dotted}
use Rattle.dms_wire.specs.Message.{ObjectValue}
use Rattle.dms_text_values.specs.ValueText.{value_text}
use Rattle.dms_sign_state.specs.StateText.{text_of_state}
use Rattle.dms_device.specs.Object.{DeviceObject}
use Rattle.dms_agent.specs.declared.agent.Agent.{Agent}

-- the line of an object's name and the value that a manager set
abbrev pub value_line : List ℕ → ObjectValue → List ℕ
value_line name value = (codes "set " ++ dotted name ++ codes " ") ++ value_text value ++ codes "\n"

-- the line of an object whose value a manager set, whether firmware was told or not, and nothing of another
abbrev pub kept_line : DeviceObject → List ℕ
kept_line object = if object.by_manager then value_line object.name object.value else []

-- in the order of names
abbrev pub kept_lines : List DeviceObject → List ℕ
kept_lines objects = flat_map kept_line objects

-- the whole state, but for what the sign was made with and what is published
abbrev pub text_of_agent : Agent → List ℕ
text_of_agent a = text_of_state a.sign ++ kept_lines a.device
