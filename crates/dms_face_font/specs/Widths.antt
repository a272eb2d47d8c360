-- The columns that an octet takes which spells a character by itself (this profile).
use Rattle.std.specs.Prelude.{◌≡◌, ℕ, ◌<◌, ◌==◌, ◌||◌, Bool, if◌then◌else◌, List, length, slice_index_or}
use Rattle.std.specs.Prelude.{Option, Some, None}
use Rattle.std.specs.Str.{byte}
use Rattle.dms_face_font.specs.Glyph.{GlyphModel}
use Rattle.dms_face_font.specs.Font.{FontModel, glyph_in, IsFont}

-- above every width of a picture
abbrev pub no_width : ℕ
no_width = 65535

-- the columns of a picture, where there is one
abbrev pub width_of : Option GlyphModel → ℕ
width_of None = no_width
width_of (Some glyph) = glyph.width

-- an octet that spells no character by itself
abbrev pub is_bracket : ℕ → Bool
is_bracket octet = (octet == byte "[") || (octet == byte "]")

-- the columns of the character that an octet spells by itself, where there is one
abbrev pub plain_width : List GlyphModel → ℕ → ℕ
plain_width glyphs octet = if is_bracket octet then no_width else width_of (glyph_in glyphs octet)

-- a table of what each octet takes
pub record AreWidths (widths : List ℕ) (glyphs : List GlyphModel) : Type 0 where
  pub all : length widths ≡ 256
  pub each : (octet : ℕ) → octet < 256 → slice_index_or widths octet 0 ≡ plain_width glyphs octet

-- a font, and the table that is kept of it
pub record IsKept (font : FontModel) (widths : List ℕ) : Type 0 where
  pub limits : IsFont font
  pub plain : AreWidths widths font.glyphs
