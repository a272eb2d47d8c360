-- What the faults of a description, and of an input that is one or is a script, print (this profile).
use Rattle.std.specs.Prelude.{ℕ, List, ◌++◌, codes, decimal}
use Rattle.dms_sign_text.specs.declared.fault.DescriptionFault.{DescriptionFault}
use Rattle.dms_sign_text.specs.declared.fault.DescriptionFault.TheVariants as faults
use Rattle.dms_sign_text.specs.declared.reading_fault.ReplayFault.{ReplayFault}
use Rattle.dms_sign_text.specs.declared.reading_fault.ReplayFault.TheVariants as reading

abbrev pub description_fault_text : DescriptionFault → List ℕ
description_fault_text (faults.Line number) = codes "line " ++ decimal number
description_fault_text faults.Memory = codes "memory"

abbrev pub replay_fault_text : ReplayFault → List ℕ
replay_fault_text reading.Read = codes "read"
replay_fault_text reading.Write = codes "write"
replay_fault_text (reading.Line number) = codes "line " ++ decimal number
replay_fault_text reading.TooLong = codes "too long"
replay_fault_text reading.Memory = codes "memory"
