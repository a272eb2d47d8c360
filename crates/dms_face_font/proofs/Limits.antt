-- What is read of a font is within its limits.
use Rattle.std.proofs.Common.{◌≡◌, ℕ, ◌<◌, ◌≤◌, false, not, List, [], ◌∷◌, ◌++◌, length, ap, ◌∙◌, arith, length-append}
use Rattle.std.proofs.lemmas.Bool.{and_from}
use Rattle.std.proofs.lemmas.List.Elements.{All-push}
use Rattle.dms_face_font.specs.Glyph.{GlyphModel, IsPicture, glyph_from}
use Rattle.dms_face_font.specs.Font.{FontModel, IsGlyph, IsFont, has_glyph}
use Rattle.dms_face_font.proofs.Pictures.{length-rows_of}
use Rattle.dms_face_font.proofs.RowLaws.{length-bits_of, widths_of}
use Rattle.dms_face_font.proofs.FontLaws.{distinct_push}

-- a picture of enough octets
pub picture_is_glyph : (character width height : ℕ) (octets : List ℕ) → IsPicture character width height octets → character ≤ 65535 → IsGlyph height (glyph_from character width height octets)
picture_is_glyph character width height octets is greatest = grind (arith, length-rows_of, widths_of, length-bits_of)

pub ruleset limits = (picture_is_glyph)

-- a character more
pub with_one_more : (font : FontModel) (glyph : GlyphModel) → IsFont font → IsGlyph font.height glyph → has_glyph font.glyphs glyph.character ≡ false → length font.glyphs < 255
    → IsFont (record font { glyphs = font.glyphs ++ glyph ∷ [] })
with_one_more font glyph is one new room = record {
  least_number = is.least_number;
  greatest_number = is.greatest_number;
  least_height = is.least_height;
  greatest_height = is.greatest_height;
  character_spacing = is.character_spacing;
  line_spacing = is.line_spacing;
  version = is.version;
  glyphs = All-push (IsGlyph font.height) font.glyphs glyph is.glyphs one;
  few = omega (arith, room, length-append font.glyphs (glyph ∷ []));
  distinct = distinct_push font.glyphs glyph ∙ and_from _ _ is.distinct (ap not new);
}
