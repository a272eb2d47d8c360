-- The numbers of the faults of a text (NTCIP 1203, dmsMultiSyntaxError).
use Rattle.std.specs.Prelude.{ℕ}
use Rattle.dms_multi.specs.declared.fault.FaultCode.{FaultCode}
use Rattle.dms_multi.specs.declared.fault.FaultCode.TheVariants.{UnsupportedTag, UnsupportedTagValue}

abbrev pub code_number : FaultCode → ℕ
code_number UnsupportedTag = 3
code_number UnsupportedTagValue = 4
