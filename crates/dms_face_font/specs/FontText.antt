-- Fonts as text: a line `font N height H space C line L version V`, then a line `glyph CHARACTER WIDTH BITS` for each
-- character (this profile).
use Rattle.std.specs.Prelude.{◌≡◌, ℕ, ◌≤◌, IsTrue, List, [], ◌∷◌, length, codes}
use Rattle.dms_text.specs.Lines.{kept_lines}
use Rattle.dms_text.specs.Words.{words_of}
use Rattle.dms_text.specs.Numbers.{SpellsDecimal, SpellsVersion}
use Rattle.dms_text.specs.Octets.{SpellsOctets}
use Rattle.dms_face_font.specs.Glyph.{GlyphModel, SpellsRows}
use Rattle.dms_face_font.specs.Font.{FontModel, are_distinct}

-- the numbers of a font's first line
pub record SpellsHeader (font : FontModel) (words : List (List ℕ)) : Type 0 where
  pub number_word : List ℕ
  pub height_word : List ℕ
  pub character_word : List ℕ
  pub line_word : List ℕ
  pub version_word : List ℕ
  pub words_are : words ≡ codes "font" ∷ number_word ∷ codes "height" ∷ height_word ∷ codes "space" ∷ character_word
      ∷ codes "line" ∷ line_word ∷ codes "version" ∷ version_word ∷ []
  pub number : SpellsDecimal 1 255 font.number number_word
  pub height : SpellsDecimal 1 32 font.height height_word
  pub character_spacing : SpellsDecimal 0 32 font.character_spacing character_word
  pub line_spacing : SpellsDecimal 0 32 font.line_spacing line_word
  pub version : SpellsVersion font.version version_word

-- a character of a font of this height
pub record SpellsGlyph (height : ℕ) (glyph : GlyphModel) (words : List (List ℕ)) : Type 0 where
  pub character_word : List ℕ
  pub width_word : List ℕ
  pub bits_word : List ℕ
  pub octets : List ℕ
  pub words_are : words ≡ codes "glyph" ∷ character_word ∷ width_word ∷ bits_word ∷ []
  pub character : SpellsDecimal 1 65535 glyph.character character_word
  pub width : SpellsDecimal 1 32 glyph.width width_word
  pub bits : SpellsOctets octets bits_word
  pub rows : SpellsRows glyph.width height glyph.rows octets

-- a line for each character, in order
abbrev pub SpellsGlyphs : ℕ → List GlyphModel → List (List ℕ) → Type 0
SpellsGlyphs height [] lines = lines ≡ []
SpellsGlyphs height (glyph ∷ glyphs) [] = ⊥
SpellsGlyphs height (glyph ∷ glyphs) (line ∷ lines) =
    SpellsGlyph height glyph (words_of line) × SpellsGlyphs height glyphs lines

-- A font has at most 255 characters, each once.
pub record SpellsFontLines (lines : List (List ℕ)) (font : FontModel) : Type 0 where
  pub header_line : List ℕ
  pub glyph_lines : List (List ℕ)
  pub lines_are : lines ≡ header_line ∷ glyph_lines
  pub header : SpellsHeader font (words_of header_line)
  pub glyphs : SpellsGlyphs font.height font.glyphs glyph_lines
  pub few : length font.glyphs ≤ 255
  pub distinct : IsTrue (are_distinct font.glyphs)

-- the lines of a text that are not skipped spell the font
abbrev pub SpellsFont : List ℕ → FontModel → Type 0
SpellsFont text font = SpellsFontLines (kept_lines text) font
