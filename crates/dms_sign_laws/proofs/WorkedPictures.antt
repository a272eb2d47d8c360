-- What the bench sign's matrix shows of a message that keeps its defaults, computed.
use Rattle.std.proofs.Common.{◌≡◌, ℕ, List, [], ◌∷◌, map, ◌+◌, if◌then◌else◌, refl, replicate}
use Rattle.std.specs.Prelude.{codes, slice_index_or}
use Rattle.dms_multi.specs.Outcomes.{outcomes_within}
use Rattle.dms_multi.specs.TagReading.{item_at, item_after_opening, item_after_closing, tag_at, body_item, name_at, letters_name, end_name, item_of, flash_of, font_of, times_of, page_time_of}
use Rattle.dms_multi.specs.Reading as digits
use Rattle.dms_face.specs.declared.cell.Cell.{Cell}
use Rattle.dms_face.specs.Layout.{PageModel, under}
use Rattle.dms_face.specs.Cells.{pages_of, cell_of}
use Rattle.dms_sign.specs.State.{SignState}
use Rattle.dms_sign_laws.proofs.BenchSign.{code, datagram, answer, after_set}
use Rattle.dms_sign_laws.proofs.WorkedDefaults.{changeable_one, copied_sign}

abbrev no_page : PageModel
no_page = record { lines = []; background = 0; on = 0; off = 0 }

-- a point where nothing is lit, else the colour's digit
abbrev digit : Cell → ℕ
digit cell = if cell.lit then 48 + cell.colour else 46

abbrev rows : List ℕ
rows = 0 ∷ 1 ∷ 2 ∷ 3 ∷ 4 ∷ 5 ∷ 6 ∷ 7 ∷ 8 ∷ 9 ∷ 10 ∷ 11 ∷ 12 ∷ 13 ∷ []

abbrev columns : List ℕ
columns = 0 ∷ 1 ∷ 2 ∷ 3 ∷ 4 ∷ 5 ∷ 6 ∷ 7 ∷ 8 ∷ 9 ∷ 10 ∷ 11 ∷ 12 ∷ 13 ∷ 14 ∷ 15 ∷ 16 ∷ 17 ∷ 18 ∷ 19 ∷ 20 ∷ 21 ∷ 22 ∷ []

-- the rows of the first page of what is shown, under its own copy of the defaults
unfoldable drawn : SignState → List (List ℕ)
unfolding outcomes_within item_at item_after_opening item_after_closing tag_at body_item name_at letters_name end_name item_of flash_of font_of times_of page_time_of digits.number_of digits.decimal_of digits.value_of digits.cut digits.version_of pages_of cell_of
drawn s =
    let face = under s.config.face s.shown.defaults in
    let page = slice_index_or (pages_of face s.shown.text) 0 no_page in
    map (λ y. map (λ x. digit (cell_of face page x y)) columns) rows

-- a row of the matrix where nothing is lit
abbrev dark : List ℕ
dark = codes "......................."

-- "A" was put up before defaultFont was set to 2
letter_of_font_one : drawn copied_sign ≡
    codes "..........999.........."
    ∷ codes ".........9...9........."
    ∷ codes ".........9...9........."
    ∷ codes ".........99999........."
    ∷ codes ".........9...9........."
    ∷ codes ".........9...9........."
    ∷ codes ".........9...9........."
    ∷ replicate 7 dark
unfolding datagram answer drawn
letter_of_font_one = refl

-- it is put up again
letter_of_font_two : drawn (after_set copied_sign (code changeable_one ∷ [])) ≡
    codes "...........9..........."
    ∷ codes "..........9.9.........."
    ∷ codes "..........999.........."
    ∷ codes "..........9.9.........."
    ∷ codes "..........9.9.........."
    ∷ replicate 9 dark
unfolding datagram answer drawn
letter_of_font_two = refl
