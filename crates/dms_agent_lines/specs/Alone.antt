-- Lines that concern the sign alone (this profile).
use Rattle.std.specs.Prelude.{Option, Some, None, ⊤}
use Rattle.dms_agent_lines.specs.declared.keywords.AgentKeyword.{AgentKeyword}
use Rattle.dms_agent_lines.specs.declared.keywords.AgentKeyword.TheVariants as key

-- the word with which a line begins neither publishes nor withdraws, nor lets fonts be read, nor asks what was set, nor
-- puts it back
abbrev pub IsOfSign : Option AgentKeyword → Type 0
IsOfSign None = ⊤
IsOfSign (Some key.Datagram) = ⊤
IsOfSign (Some key.Object) = ⊥
IsOfSign (Some key.NoObject) = ⊥
IsOfSign (Some key.Fonts) = ⊥
IsOfSign (Some key.Objects) = ⊥
IsOfSign (Some key.Set) = ⊥
IsOfSign (Some key.Save) = ⊤
