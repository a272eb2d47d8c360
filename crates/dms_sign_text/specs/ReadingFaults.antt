-- Faults of an input that is a description or a script (this profile).
use Rattle.dms_text_streams.specs.declared.fault.InputFault.{InputFault}
use Rattle.dms_text_streams.specs.declared.fault.InputFault.TheVariants as input
use Rattle.dms_sign_text.specs.declared.reading_fault.ReplayFault.{ReplayFault}
use Rattle.dms_sign_text.specs.declared.reading_fault.ReplayFault.TheVariants as faults

-- a line is at fault
abbrev pub IsLine : ReplayFault → Type 0
IsLine faults.Read = ⊥
IsLine faults.Write = ⊥
IsLine (faults.Line number) = Unit {0}
IsLine faults.TooLong = ⊥
IsLine faults.Memory = ⊥

-- which fault of a script or a description a fault of its input is
abbrev pub replay_fault : InputFault → ReplayFault
replay_fault input.Read = faults.Read
replay_fault input.TooLong = faults.TooLong
replay_fault input.Memory = faults.Memory
