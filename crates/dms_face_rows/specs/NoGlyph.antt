-- What stands where a font lacks a character (this profile).
use Rattle.std.specs.Prelude.{[]}
use Rattle.dms_face_font.specs.Glyph.{GlyphModel}

-- a picture of nothing
abbrev pub no_glyph : GlyphModel
no_glyph = record { character = 0; width = 0; rows = [] }
