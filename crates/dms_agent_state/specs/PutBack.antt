-- The objects to which the values of a text are put back (this profile).
use Rattle.std.specs.Prelude.{◌≡◌, ℕ, List, Result, Ok, Err}
use Rattle.dms_wire.specs.Message.{VarBind}
use Rattle.dms_device.specs.Setting.{written}
use Rattle.dms_agent.specs.declared.agent.Agent.{Agent}
use Rattle.dms_agent_state.specs.declared.fault.SetError.{SetError}
use Rattle.dms_agent_state.specs.declared.fault.SetError.TheVariants as errors
use Rattle.dms_agent_state.specs.declared.fault.SetFault.{SetFault}
use Rattle.dms_agent_state.specs.ValueLines.{values_of}

-- Each published object that takes the value of its name has it, as if a manager had set it now: firmware is told of it
-- again. A name that is not published, and a value that its object does not take, are left out.
abbrev pub with_values : Agent → List VarBind → Agent
with_values a bindings = record a { device = written a.device bindings }

-- the text says some values, and this is the agent to whose objects they are put back
abbrev pub ArePutBack : Agent → List ℕ → Agent → Type 0
ArePutBack a text after = (bindings : List VarBind) × (values_of text ≡ Ok bindings) × (after ≡ with_values a bindings)

-- why something that a text says is not had: its first line that says nothing, or that memory ran out
abbrev pub IsWhy : {Y : Type 0} → SetError → Result Y SetFault → Type 0
IsWhy errors.Memory said = Unit {0}
IsWhy (errors.Fault fault) said = said ≡ Err fault

-- what a function returned, seen by view, is what the text says, unless memory ran out
abbrev pub Gives : {X Y : Type 0} → (X → Y) → Result X SetError → Result Y SetFault → Type 0
Gives view (Ok x) said = said ≡ Ok (view x)
Gives view (Err error) said = IsWhy error said
