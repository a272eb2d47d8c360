-- Fonts, and their limits (NTCIP 1203, font definition; the greatest numbers are of this profile).
use Rattle.std.specs.Prelude.{◌≡◌, ℕ, ◌==◌, ◌≤◌, ◌&&◌, Bool, true, not, List, [], ◌∷◌, length, Option, All}
use Rattle.std.specs.List.{find, list_any, AllByRecursion}
use Rattle.dms_face_font.specs.Glyph.{GlyphModel}

-- The spacings are the columns between two characters and the rows between two lines.
pub record FontModel : Type 0 where
  pub number : ℕ
  pub height : ℕ
  pub character_spacing : ℕ
  pub line_spacing : ℕ
  pub version : ℕ
  pub glyphs : List GlyphModel

abbrev pub glyph_in : List GlyphModel → ℕ → Option GlyphModel
glyph_in glyphs character = find (λ (glyph : GlyphModel). glyph.character == character) glyphs

-- a font is a map from characters to their pictures
abbrev pub glyph_of : FontModel → ℕ → Option GlyphModel
glyph_of font character = glyph_in font.glyphs character

abbrev pub has_glyph : List GlyphModel → ℕ → Bool
has_glyph glyphs character = list_any (λ (glyph : GlyphModel). glyph.character == character) glyphs

-- no character has two pictures
abbrev pub are_distinct : List GlyphModel → Bool
are_distinct [] = true
are_distinct (glyph ∷ glyphs) = not (has_glyph glyphs glyph.character) && are_distinct glyphs

-- ---- limits

-- A character of a font of this height has a picture of 1 to 32 columns and as many rows as the font is high.
pub record IsGlyph (height : ℕ) (glyph : GlyphModel) : Type 0 where
  pub least_character : 1 ≤ glyph.character
  pub greatest_character : glyph.character ≤ 65535
  pub least_width : 1 ≤ glyph.width
  pub greatest_width : glyph.width ≤ 32
  pub height_is : length glyph.rows ≡ height
  pub width_is : AllByRecursion (λ row. length row ≡ glyph.width) glyph.rows

-- Numbers are 1 to 255, heights 1 to 32, spacings 0 to 32; a font has at most 255 characters, each once.
pub record IsFont (font : FontModel) : Type 0 where
  pub least_number : 1 ≤ font.number
  pub greatest_number : font.number ≤ 255
  pub least_height : 1 ≤ font.height
  pub greatest_height : font.height ≤ 32
  pub character_spacing : font.character_spacing ≤ 32
  pub line_spacing : font.line_spacing ≤ 32
  pub version : font.version ≤ 65535
  pub glyphs : All (IsGlyph font.height) font.glyphs
  pub few : length font.glyphs ≤ 255
  pub distinct : are_distinct font.glyphs ≡ true
