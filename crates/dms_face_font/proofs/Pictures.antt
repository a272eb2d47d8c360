-- The rows of a picture.
use Rattle.std.proofs.Common.{◌≡◌, ℕ, zero, suc, ◌*◌, ◌<◌, Bool, List, [], length, take, drop, get_or, refl, ap, arith}
use Rattle.std.proofs.lemmas.List.{drop-drop}
use Rattle.dms_face_font.specs.Glyph.{rows_of}

pub length-rows_of : (width height : ℕ) (bits : List Bool) → length (rows_of width height bits) ≡ height
length-rows_of width zero bits = refl
length-rows_of width (suc height) bits = ap suc (length-rows_of width height (drop width bits))

pub row_at : (width height row : ℕ) (bits : List Bool) → row < height → get_or (rows_of width height bits) row [] ≡ take width (drop (row * width) bits)
row_at width zero row bits below = absurd (omega arith)
row_at width (suc height) zero bits below = ap (λ k. take width (drop k bits)) (let e : 0 ≡ 0 * width = omega arith in e)
row_at width (suc height) (suc row) bits below = grind (arith, drop-drop, row_at width height row (drop width bits) (omega arith))
