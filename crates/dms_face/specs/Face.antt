-- What signs are made with: a matrix, its fonts, and what holds where a text says nothing else (NTCIP 1203, sign
-- configuration, font and MULTI objects; the greatest numbers are of this profile).
use Rattle.std.specs.Prelude.{All, IsTrue, ℕ, ◌==◌, ◌&&◌, Bool, true, not, if◌then◌else◌}
use Rattle.std.specs.Prelude.{List, [], ◌∷◌, length, nat_le, Option, Result, Ok, Err}
use Rattle.std.specs.List.{find, list_any}
use Rattle.dms_codes.specs.Limits.{widest_matrix, highest_matrix}
use Rattle.dms_face_font.specs.Font.{FontModel, IsFont}
use Rattle.dms_face.specs.declared.defaults.Defaults.{Defaults}
use Rattle.dms_face.specs.declared.fault.FaceFault.{FaceFault}
use Rattle.dms_face.specs.declared.fault.FaceFault.TheVariants.{Size, Fonts, Default}

pub record FaceModel : Type 0 where
  pub width : ℕ
  pub height : ℕ
  pub fonts : List FontModel
  pub defaults : Defaults

abbrev pub has_font : List FontModel → ℕ → Bool
has_font fonts number = list_any (λ (font : FontModel). font.number == number) fonts

abbrev pub font_in : List FontModel → ℕ → Option FontModel
font_in fonts number = find (λ (font : FontModel). font.number == number) fonts

abbrev pub font_of : FaceModel → ℕ → Option FontModel
font_of face number = font_in face.fonts number

abbrev pub is_within : ℕ → ℕ → ℕ → Bool
is_within low high number = nat_le low number && nat_le number high

abbrev pub is_matrix : ℕ → ℕ → Bool
is_matrix width height = is_within 1 widest_matrix width && is_within 1 highest_matrix height

-- no number has two fonts
abbrev pub have_own_numbers : List FontModel → Bool
have_own_numbers [] = true
have_own_numbers (font ∷ fonts) = not (has_font fonts font.number) && have_own_numbers fonts

abbrev pub most_fonts : ℕ
most_fonts = 4

-- one to four fonts, each with a number of its own
abbrev pub are_fonts : List FontModel → Bool
are_fonts fonts = is_within 1 most_fonts (length fonts) && have_own_numbers fonts

-- Colours are 0 to 9, justifications 2 to 4, times any octet, and the default font is one of the fonts.
abbrev pub fit : List FontModel → Defaults → Bool
fit fonts defaults = nat_le defaults.background 9 && nat_le defaults.foreground 9 && is_within 2 4 defaults.line
    && is_within 2 4 defaults.page && has_font fonts defaults.font

abbrev pub is_face : FaceModel → Bool
is_face face = is_matrix face.width face.height && are_fonts face.fonts && fit face.fonts face.defaults

-- what holds of every face that was made: also its fonts are within their limits
pub record IsFace (face : FaceModel) : Type 0 where
  pub is_face : IsTrue (is_face face)
  pub fonts : All IsFont face.fonts

-- the face, or the first thing that is wrong with it
abbrev pub checked : FaceModel → Result FaceModel FaceFault
checked face =
    if not (is_matrix face.width face.height) then Err Size
    else if not (are_fonts face.fonts) then Err Fonts
    else if not (fit face.fonts face.defaults) then Err Default
    else Ok face
