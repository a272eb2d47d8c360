-- Every cell of a drawn page is the one of the definition.
use Rattle.std.proofs.Common.{◌≡◌, ℕ, ◌+◌, ◌*◌, ◌/◌, ◌%◌, ◌<◌, List, [], ◌++◌, length, get_or, take, drop, map, replicate, refl, sym, ap, ◌∙◌, arith}
use Rattle.std.specs.Prelude.{Vec}
use Rattle.std.specs.Vec.{vec_len, with_items}
use Rattle.std.proofs.Math.Seq.{take-append_seam}
use Rattle.std.proofs.lemmas.Nat.{div-mul-add, mod-mul-add, mul-add-lt}
use Rattle.std.proofs.lemmas.List.{get_or-replicate, length-replicate}
use Rattle.std.proofs.lemmas.List.FromFn.{get_or-map-range_with_len, fill_by_all}
use Rattle.dms_face.specs.declared.cell.Cell.{Cell}
use Rattle.dms_face.specs.declared.defaults.Defaults.{Defaults}
use Rattle.dms_face.specs.Face.{FaceModel}
use Rattle.dms_face.specs.Layout.{PageModel, under}
use Rattle.dms_face.specs.Cells.{cell_of}
use Rattle.dms_face_pages.specs.Drawn.{DrawnPage, unlit, cell_at, drawn}
use Rattle.dms_face_pages.specs.Drawing.{lines_characters, Shows}

pub drawn_cell : (face : FaceModel) (page : PageModel) (x y : ℕ) → x < face.width → y < face.height → cell_at (drawn face page) x y ≡ cell_of face page x y
drawn_cell face page x y column row =
    let f : ℕ → Cell = λ place. cell_of face page (place % face.width) (place / face.width) in
    let place = y * face.width + x in
    get_or-map-range_with_len f 0 (face.width * face.height) place place (unlit page.background) (mul-add-lt y face.width x face.height row column) (omega arith)
    ∙ ap (λ k. cell_of face page k (place / face.width)) (mod-mul-add y face.width x column)
    ∙ ap (cell_of face page x) (div-mul-add y face.width x column)

pub drawn_cell_of : (face : FaceModel) (page : PageModel) (made : DrawnPage) (x y : ℕ) → made ≡ drawn face page → x < made.width → y < made.height → cell_at made x y ≡ cell_of face page x y
drawn_cell_of face page made x y is column row = grind (arith, drawn_cell)

-- Cells that show all characters of a page are its cells.
pub cells_shown : (face : FaceModel) (page : PageModel) (cells : List Cell) → length cells ≡ face.width * face.height → Shows face page (lines_characters face page.lines) cells
    → cells ≡ (drawn face page).cells
unfolding cell_of
cells_shown face page cells long shows =
    fill_by_all (λ place. cell_of face page (place % face.width) (place / face.width)) cells (face.width * face.height) (unlit page.background) long
    (λ place below. shows.cell (unlit page.background) place (omega arith))

-- Cells before anything is drawn show no character.
pub blank_shows : (face : FaceModel) (page : PageModel) (count : ℕ) (cells : List Cell) → cells ≡ replicate count (unlit page.background) → Shows face page [] cells
blank_shows face page count cells are = grind (arith, get_or, get_or-replicate, length-replicate)

abbrev page_with : ℕ → ℕ → ℕ → ℕ → ℕ → List Cell → DrawnPage
page_with width height background on off cells = record { width = width; height = height; background = background; on = on; off = off; cells = cells }

pub page_is : (face : FaceModel) (page : PageModel) (width height background on off : ℕ) (cells : List Cell) → width ≡ face.width → height ≡ face.height
    → background ≡ page.background → on ≡ page.on → off ≡ page.off → cells ≡ (drawn face page).cells → page_with width height background on off cells ≡ drawn face page
page_is face page width height background on off cells width_is height_is background_is on_is off_is cells_are = grind arith

-- which defaults a face has is nothing to its cells
pub drawn_all_under : (face : FaceModel) (defaults : Defaults) (pages : List PageModel) → map (drawn face) pages ≡ map (drawn (under face defaults)) pages
unfolding cell_of
drawn_all_under face defaults pages = refl

-- a vector with as many elements written over its own
pub refilled : {A Z : Type 0} (cells : Vec A Z) (new : List A) → length new ≡ vec_len cells → (with_items cells new).items ≡ new
refilled cells new long = ap (λ n. take n (new ++ drop (length new) cells.items)) (sym long) ∙ take-append_seam new (drop (length new) cells.items)
