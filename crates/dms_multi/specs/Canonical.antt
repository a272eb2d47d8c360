-- The canonical text of items, a choice of the profile's own: small letters in names, numbers without leading zeros, a
-- background as `pb` (this profile).
use Rattle.std.specs.Prelude.{ℕ, ◌/◌, ◌%◌, Bool, true, false, if◌then◌else◌, List, [], ◌∷◌}
use Rattle.std.specs.Prelude.{◌++◌, nat_lt, Option, Some, None, codes, decimal, flat_map}
use Rattle.std.specs.Fmt.{digits, digit_glyph}
use Rattle.dms_multi.specs.declared.item.Item.{Item}
use Rattle.dms_multi.specs.declared.item.Item.TheVariants.{Char, Background, Foreground, Font, FlashOn, FlashEnd}
use Rattle.dms_multi.specs.declared.item.Item.TheVariants.{JustLine, JustPage, NewLine, NewPage, PageTime}
use Rattle.dms_multi.specs.declared.item.Lead.{Lead}
use Rattle.dms_multi.specs.declared.item.Lead.TheVariants.{Lit, Dark}
use Rattle.dms_multi.specs.Grammar.{plain}

-- a number; a missing one is not written
abbrev pub value_text : Option ℕ → List ℕ
value_text None = []
value_text (Some n) = decimal n

-- a letter and the time after it; neither where the time is missing
abbrev pub later_time_text : List ℕ → Option ℕ → List ℕ
later_time_text letter None = []
later_time_text letter (Some n) = letter ++ decimal n

-- four hexadecimal digits, capital or small ones
abbrev pub hexadecimal_text : Bool → ℕ → List ℕ
hexadecimal_text upper n = digit_glyph upper (n / 4096) ∷ digit_glyph upper (n / 256 % 16)
    ∷ digit_glyph upper (n / 16 % 16) ∷ digit_glyph upper (n % 16) ∷ []

-- how many of them are leading zeros; the last one is none
abbrev pub leading_zeros : ℕ → ℕ
leading_zeros n = if nat_lt n 16 then 3 else if nat_lt n 256 then 2 else if nat_lt n 4096 then 1 else 0

abbrev pub font_text : Option (ℕ × Option ℕ) → List ℕ
font_text None = []
font_text (Some (n, None)) = decimal n
font_text (Some (n, Some version)) = decimal n ++ codes "," ++ hexadecimal_text false version

-- `t` and the lit time, then `o` and the dark one; with the dark time first the other way round
abbrev pub flash_text : Lead → Option ℕ → Option ℕ → List ℕ
flash_text Lit None None = []
flash_text Lit lit dark = codes "t" ++ value_text lit ++ later_time_text (codes "o") dark
flash_text Dark lit dark = codes "o" ++ value_text dark ++ later_time_text (codes "t") lit

-- what stands between a tag's brackets; of a character, capital hexadecimal digits
abbrev pub body_text : Item → List ℕ
body_text (Char c) = codes "hc" ++ digits 16 true c
body_text (Background colour) = codes "pb" ++ value_text colour
body_text (Foreground colour) = codes "cf" ++ value_text colour
body_text (Font font) = codes "fo" ++ font_text font
body_text (FlashOn first lit dark) = codes "fl" ++ flash_text first lit dark
body_text FlashEnd = codes "/fl"
body_text (JustLine place) = codes "jl" ++ value_text place
body_text (JustPage place) = codes "jp" ++ value_text place
body_text (NewLine gap) = codes "nl" ++ value_text gap
body_text NewPage = codes "np"
body_text (PageTime lit dark) = codes "pt" ++ value_text lit ++ later_time_text (codes "o") dark

abbrev pub tag_text : Item → List ℕ
tag_text item = codes "[" ++ body_text item ++ codes "]"

-- an octet as itself, a bracket twice; any other item as its tag
unfoldable pub item_text : Item → List ℕ
item_text (Char c) = if nat_lt c 256 then plain c else tag_text (Char c)
item_text item = tag_text item

-- the canonical text of items
abbrev pub text_of : List Item → List ℕ
text_of items = flat_map item_text items
