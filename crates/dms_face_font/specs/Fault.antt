-- The numbers of the faults of a font's text (this profile).
use Rattle.std.specs.Prelude.{ℕ}
use Rattle.dms_face_font.specs.declared.fault.FontFaultKind.{FontFaultKind}
use Rattle.dms_face_font.specs.declared.fault.FontFaultKind.TheVariants.{Header, Glyph, Bitmap, Twice, TooMany, Memory}

abbrev pub kind_number : FontFaultKind → ℕ
kind_number Header = 1
kind_number Glyph = 2
kind_number Bitmap = 3
kind_number Twice = 4
kind_number TooMany = 5
kind_number Memory = 6
