-- The ranges of the values of MULTI's tags (NTCIP 1203, dmsMessageMultiString).
use Rattle.std.specs.Prelude.{ℕ, ◌≤◌, Option, Some, None}
use Rattle.dms_multi.specs.Range.{IsWithin}
use Rattle.dms_multi.specs.declared.item.Item.{Item}
use Rattle.dms_multi.specs.declared.item.Item.TheVariants.{Char, Background, Foreground, Font, FlashOn, FlashEnd}
use Rattle.dms_multi.specs.declared.item.Item.TheVariants.{JustLine, JustPage, NewLine, NewPage, PageTime}

-- a font's number, and its version of 16 bits
abbrev pub IsFontInRange : Option (ℕ × Option ℕ) → Type 0
IsFontInRange None = Unit {0}
IsFontInRange (Some (n, version)) = (1 ≤ n) × (n ≤ 255) × IsWithin 0 65535 version

abbrev pub IsInRange : Item → Type 0
IsInRange (Char c) = c ≤ 65535
IsInRange (Background colour) = IsWithin 0 9 colour
IsInRange (Foreground colour) = IsWithin 0 9 colour
IsInRange (Font font) = IsFontInRange font
IsInRange (FlashOn first lit dark) = IsWithin 0 99 lit × IsWithin 0 99 dark
IsInRange FlashEnd = Unit {0}
IsInRange (JustLine place) = IsWithin 2 4 place
IsInRange (JustPage place) = IsWithin 2 4 place
IsInRange (NewLine gap) = IsWithin 0 9 gap
IsInRange NewPage = Unit {0}
IsInRange (PageTime lit dark) = IsWithin 0 255 lit × IsWithin 0 255 dark
