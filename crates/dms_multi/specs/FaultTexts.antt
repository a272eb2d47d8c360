-- What the faults of a text print (this profile).
use Rattle.std.specs.Prelude.{ℕ, List, ◌++◌, codes, decimal}
use Rattle.dms_multi.specs.declared.fault.FaultCode.{FaultCode}
use Rattle.dms_multi.specs.declared.fault.FaultCode.TheVariants.{UnsupportedTag, UnsupportedTagValue}
use Rattle.dms_multi.specs.declared.fault.SyntaxFault.{SyntaxFault}

abbrev pub code_text : FaultCode → List ℕ
code_text UnsupportedTag = codes "unsupported tag"
code_text UnsupportedTagValue = codes "unsupported tag value"

abbrev pub syntax_fault_text : SyntaxFault → List ℕ
syntax_fault_text fault = code_text fault.code ++ codes " at octet " ++ decimal fault.place

abbrev pub too_long_text : List ℕ
too_long_text = codes "text over 512 octets"
