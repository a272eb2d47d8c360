-- What faults of faces and of texts print (this profile).
use Rattle.std.specs.Prelude.{ℕ, List, ◌++◌, codes, decimal}
use Rattle.dms_face.specs.declared.fault.FaceFault.{FaceFault}
use Rattle.dms_face.specs.declared.fault.FaceFault.TheVariants.{Size, Fonts, Default}
use Rattle.dms_face.specs.declared.multi_fault.MultiFault.{MultiFault}
use Rattle.dms_face.specs.declared.multi_fault.MultiFaultCode.{MultiFaultCode}
use Rattle.dms_face.specs.declared.multi_fault.MultiFaultCode.TheVariants.{Other, None, UnsupportedTag}
use Rattle.dms_face.specs.declared.multi_fault.MultiFaultCode.TheVariants.{UnsupportedTagValue, TextTooBig}
use Rattle.dms_face.specs.declared.multi_fault.MultiFaultCode.TheVariants.{FontNotDefined, CharacterNotDefined}
use Rattle.dms_face.specs.declared.multi_fault.MultiFaultCode.TheVariants.{TagConflict, TooManyPages, FontVersionId}

abbrev pub face_fault_text : FaceFault → List ℕ
face_fault_text Size = codes "no size of a matrix"
face_fault_text Fonts = codes "no fonts of a sign"
face_fault_text Default = codes "a default that does not fit"

abbrev pub code_text : MultiFaultCode → List ℕ
code_text Other = codes "other fault"
code_text None = codes "no fault"
code_text UnsupportedTag = codes "unsupported tag"
code_text UnsupportedTagValue = codes "unsupported tag value"
code_text TextTooBig = codes "text too big"
code_text FontNotDefined = codes "font not defined"
code_text CharacterNotDefined = codes "character not defined"
code_text TagConflict = codes "tag conflict"
code_text TooManyPages = codes "too many pages"
code_text FontVersionId = codes "another version of the font"

abbrev pub multi_fault_text : MultiFault → List ℕ
multi_fault_text fault = code_text fault.code ++ codes " at octet " ++ decimal fault.place
