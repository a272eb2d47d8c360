-- What the names of an agent read: those of its sign, those of the sign's fonts where these can be read, and those that
-- its device publishes (RFC 1157, 4.1.2 and 4.1.3).
use Rattle.std.specs.Prelude.{ℕ, ◌==◌, Bool, true, if◌then◌else◌, List, length, Option, Some, None}
use Rattle.dms_wire_ber.specs.NameOrder.{is_before}
use Rattle.dms_wire.specs.Message.{ObjectValue, VarBind}
use Rattle.dms_sign.specs.Values.{value_of, value_after}
use Rattle.dms_device.specs.Objects.{device_value, device_after}
use Rattle.dms_device_fonts.specs.Fonts.{fonts_value, fonts_after}
use Rattle.dms_agent.specs.declared.agent.Agent.{Agent}

-- ---- of two, the first

-- the first value, where there is one
abbrev pub or_else : Option ObjectValue → Option ObjectValue → Option ObjectValue
or_else (Some value) other = Some value
or_else None other = other

-- of two bindings the one whose name comes first, and the first binding where the names are the same
abbrev pub earliest : Option VarBind → Option VarBind → Option VarBind
earliest None other = other
earliest (Some one) None = Some one
earliest (Some one) (Some other) = if is_before other.name one.name then Some other else Some one

-- ---- the sign's own: its instances, and those of its fonts where these can be read

-- what a name reads of the fonts
abbrev pub font_value : Agent → List ℕ → Option ObjectValue
font_value a name = if a.has_fonts then fonts_value a.sign.config.face name else None

-- what comes first after a name, of the fonts
abbrev pub font_after : Agent → List ℕ → Option VarBind
font_after a name = if a.has_fonts then fonts_after a.sign.config.face name else None

-- the sign's value, or else the fonts'
abbrev pub own_value : Agent → List ℕ → Option ObjectValue
own_value a name = or_else (value_of a.sign name) (font_value a name)

-- what comes first after a name, of the sign's and the fonts'
abbrev pub own_after : Agent → List ℕ → Option VarBind
own_after a name = earliest (value_after a.sign name) (font_after a name)

-- ---- of all

-- the sign's own value, or else the device's
abbrev pub agent_value : Agent → List ℕ → Option ObjectValue
agent_value a name = or_else (own_value a name) (device_value a.device name)

-- what comes first after a name, of the sign's own and the device's
abbrev pub agent_after : Agent → List ℕ → Option VarBind
agent_after a name = earliest (own_after a name) (device_after a.device name)

-- ---- making fonts readable

-- nothing is published
abbrev pub is_bare : Agent → Bool
is_bare a = length a.device == 0

-- From here on fonts can be read, where nothing is published.
abbrev pub showing_fonts : Agent → Agent
showing_fonts a = if is_bare a then record a { has_fonts = true } else a
