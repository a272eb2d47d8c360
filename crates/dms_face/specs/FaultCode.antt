-- The values of dmsMultiSyntaxError (NTCIP 1203).
use Rattle.std.specs.Prelude.{ℕ}
use Rattle.dms_multi.specs.declared.fault.FaultCode.{FaultCode}
use Rattle.dms_multi.specs.declared.fault.FaultCode.TheVariants as syntax
use Rattle.dms_multi.specs.declared.fault.SyntaxFault.{SyntaxFault}
use Rattle.dms_face.specs.declared.multi_fault.MultiFault.{MultiFault}
use Rattle.dms_face.specs.declared.multi_fault.MultiFaultCode.{MultiFaultCode}
use Rattle.dms_face.specs.declared.multi_fault.MultiFaultCode.TheVariants.{Other, None, UnsupportedTag}
use Rattle.dms_face.specs.declared.multi_fault.MultiFaultCode.TheVariants.{UnsupportedTagValue, TextTooBig}
use Rattle.dms_face.specs.declared.multi_fault.MultiFaultCode.TheVariants.{FontNotDefined, CharacterNotDefined}
use Rattle.dms_face.specs.declared.multi_fault.MultiFaultCode.TheVariants.{TagConflict, TooManyPages, FontVersionId}

abbrev pub number_of_code : MultiFaultCode → ℕ
number_of_code Other = 1
number_of_code None = 2
number_of_code UnsupportedTag = 3
number_of_code UnsupportedTagValue = 4
number_of_code TextTooBig = 5
number_of_code FontNotDefined = 6
number_of_code CharacterNotDefined = 7
number_of_code TagConflict = 11
number_of_code TooManyPages = 12
number_of_code FontVersionId = 13

-- the code of a fault of the grammar
abbrev pub code_of_syntax : FaultCode → MultiFaultCode
code_of_syntax syntax.UnsupportedTag = UnsupportedTag
code_of_syntax syntax.UnsupportedTagValue = UnsupportedTagValue

abbrev pub syntax_fault : SyntaxFault → MultiFault
syntax_fault fault = record { code = code_of_syntax fault.code; place = fault.place }
