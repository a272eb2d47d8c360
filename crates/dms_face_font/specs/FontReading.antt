-- Reading a font from the beginning of its text: the font, or the first fault and its line (this profile).
use Rattle.std.specs.Prelude.{ℕ, ◌+◌, ◌*◌, ◌/◌, ◌==◌, Bool, if◌then◌else◌, List, [], ◌∷◌, ◌++◌}
use Rattle.std.specs.Prelude.{length, codes, nat_le, Option, Some, None, Result, Ok, Err}
use Rattle.dms_text.specs.Lines.{NumberedLine, TextLeft, lines_left, number_after}
use Rattle.dms_text.specs.Words.{words_of}
use Rattle.dms_text.specs.Reading.{word_at, keyword_at, decimal_at, is_end, version_of, octets_of, ◌>>=◌}
use Rattle.dms_face_font.specs.Glyph.{GlyphModel, glyph_from}
use Rattle.dms_face_font.specs.Font.{FontModel, has_glyph}
use Rattle.dms_face_font.specs.declared.fault.FontFaultKind.{FontFaultKind}
use Rattle.dms_face_font.specs.declared.fault.FontFaultKind.TheVariants.{Header, Glyph, Bitmap, Twice, TooMany, Memory}
use Rattle.dms_face_font.specs.declared.fault.FontFault.{FontFault}

-- a label, and the number after it
unfoldable pub labelled_at : List ℕ → ℕ → ℕ → List (List ℕ) → Option (ℕ × List (List ℕ))
labelled_at label low high words = keyword_at label words >>= decimal_at 5 low high

unfoldable pub version_at : List (List ℕ) → Option ℕ
version_at words = do
  rest ← keyword_at (codes "version") words
  found ← word_at rest
  if is_end found.1 then version_of found.0 else None

-- the font of a first line, as yet without characters
unfoldable pub header_of : List (List ℕ) → Option FontModel
header_of words = do
  number ← labelled_at (codes "font") 1 255 words
  height ← labelled_at (codes "height") 1 32 number.1
  character_spacing ← labelled_at (codes "space") 0 32 height.1
  line_spacing ← labelled_at (codes "line") 0 32 character_spacing.1
  version ← version_at line_spacing.1
  Some (record {
    number = number.0;
    height = height.0;
    character_spacing = character_spacing.0;
    line_spacing = line_spacing.0;
    version = version;
    glyphs = [];
  })

-- what the words of a character's line are: the character, its width, and the word of its bits
pub record GlyphWords : Type 0 where
  pub character : ℕ
  pub width : ℕ
  pub bits : List ℕ

unfoldable pub glyph_words : List (List ℕ) → Option GlyphWords
glyph_words words = do
  rest ← keyword_at (codes "glyph") words
  character ← decimal_at 5 1 65535 rest
  width ← decimal_at 5 1 32 character.1
  bits ← word_at width.1
  if is_end bits.1 then Some (record { character = character.0; width = width.0; bits = bits.0 }) else None

-- as many octets as a picture of this width and height takes
abbrev pub are_enough : ℕ → ℕ → List ℕ → Bool
are_enough width height octets = length octets == (width * height + 7) / 8

unfoldable pub bitmap_of : ℕ → ℕ → List ℕ → Option (List ℕ)
bitmap_of width height word = do
  octets ← octets_of word
  if are_enough width height octets then Some octets else None

abbrev pub bitmap_or : Option (List ℕ) → Result (List ℕ) FontFaultKind
bitmap_or None = Err Bitmap
bitmap_or (Some octets) = Ok octets

abbrev pub bitmap_read : ℕ → ℕ → List ℕ → Result (List ℕ) FontFaultKind
bitmap_read width height word = bitmap_or (bitmap_of width height word)

abbrev pub glyph_with : GlyphWords → ℕ → Result (List ℕ) FontFaultKind → Result GlyphModel FontFaultKind
glyph_with words height (Err kind) = Err kind
glyph_with words height (Ok octets) = Ok (glyph_from words.character words.width height octets)

abbrev pub glyph_said : ℕ → Option GlyphWords → Result GlyphModel FontFaultKind
glyph_said height None = Err Glyph
glyph_said height (Some words) = glyph_with words height (bitmap_read words.width height words.bits)

-- the character of a line, in a font of this height
unfoldable pub glyph_read : ℕ → List ℕ → Result GlyphModel FontFaultKind
glyph_read height line = glyph_said height (glyph_words (words_of line))

abbrev pub with_glyph : FontModel → Result GlyphModel FontFaultKind → Result FontModel FontFaultKind
with_glyph font (Err kind) = Err kind
with_glyph font (Ok glyph) =
    if has_glyph font.glyphs glyph.character then Err Twice
    else if nat_le 255 (length font.glyphs) then Err TooMany
    else Ok (record font { glyphs = font.glyphs ++ glyph ∷ [] })

-- the font with the character of one more line
unfoldable pub glyph_added : FontModel → List ℕ → Result FontModel FontFaultKind
glyph_added font line = with_glyph font (glyph_read font.height line)

abbrev pub fault : FontFaultKind → ℕ → FontFault
fault kind line = record { kind = kind; line = line }

-- a fault stands at its line; out of memory stands at none
abbrev pub placed : FontFaultKind → ℕ → FontFault
placed Memory line = fault Memory 0
placed kind line = fault kind line

-- the font with the characters of all these lines
abbrev pub added_then : (FontModel → Result FontModel FontFault) → ℕ → Result FontModel FontFaultKind
    → Result FontModel FontFault
added_then more number (Err kind) = Err (placed kind number)
added_then more number (Ok font) = more font

unfoldable pub glyphs_added : FontModel → List NumberedLine → Result FontModel FontFault
glyphs_added font [] = Ok font
glyphs_added font (line ∷ lines) =
    added_then (λ longer. glyphs_added longer lines) line.number (glyph_added font line.octets)

abbrev pub font_with : ℕ → List NumberedLine → Option FontModel → Result FontModel FontFault
font_with number lines None = Err (fault Header number)
font_with number lines (Some font) = glyphs_added font lines

-- the font of these lines; where there is none, its first line is missing at this number
abbrev pub font_of_lines : ℕ → List NumberedLine → Result FontModel FontFault
font_of_lines missing [] = Err (fault Header missing)
font_of_lines missing (line ∷ lines) = font_with line.number lines (header_of (words_of line.octets))

abbrev pub whole : List ℕ → TextLeft
whole text = record { number = 1; text = text }

-- the font of a text
unfoldable pub font_read : List ℕ → Result FontModel FontFault
font_read text = font_of_lines (number_after (whole text)) (lines_left (whole text))
