-- What the faults of a font's text print (this profile).
use Rattle.std.specs.Prelude.{ℕ, List, ◌++◌, codes, decimal}
use Rattle.dms_face_font.specs.declared.fault.FontFault.{FontFault}
use Rattle.dms_face_font.specs.declared.fault.FontFaultKind.{FontFaultKind}
use Rattle.dms_face_font.specs.declared.fault.FontFaultKind.TheVariants.{Header, Glyph, Bitmap, Twice, TooMany, Memory}

abbrev pub kind_text : FontFaultKind → List ℕ
kind_text Header = codes "no header of a font"
kind_text Glyph = codes "no line of a character"
kind_text Bitmap = codes "bits that do not fit the picture"
kind_text Twice = codes "a character for the second time"
kind_text TooMany = codes "more than 255 characters"
kind_text Memory = codes "out of memory"

abbrev pub font_fault_text : FontFault → List ℕ
font_fault_text fault = kind_text fault.kind ++ codes " at line " ++ decimal fault.line
