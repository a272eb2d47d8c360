-- How it is said what is wrong with a line of objects (this profile).
use Rattle.std.specs.Prelude.{ℕ, List, ◌++◌, codes, decimal}
use Rattle.dms_agent_state.specs.declared.fault.SetCause.{SetCause}
use Rattle.dms_agent_state.specs.declared.fault.SetCause.TheVariants as causes
use Rattle.dms_agent_state.specs.declared.fault.SetFault.{SetFault}
use Rattle.dms_agent_state.specs.declared.fault.SetError.{SetError}
use Rattle.dms_agent_state.specs.declared.fault.SetError.TheVariants as errors

abbrev pub cause_text : SetCause → List ℕ
cause_text causes.Keyword = codes "set, a name and a value are wanted"
cause_text causes.Name = codes "word 2: the name of an object is wanted, as 1.3.6.1"
cause_text causes.Value = codes "word 3: a value is wanted, as INTEGER 7"
cause_text causes.More = codes "after the value the end of the line is wanted"
cause_text causes.Newline = codes "a newline is wanted at its end"

abbrev pub fault_text : SetFault → List ℕ
fault_text fault = codes "line " ++ decimal fault.line ++ codes ": " ++ cause_text fault.cause

abbrev pub error_text : SetError → List ℕ
error_text errors.Memory = codes "no memory"
error_text (errors.Fault fault) = fault_text fault
