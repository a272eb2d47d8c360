-- What running sums say of a layout, once a page or a part is closed.
use Rattle.std.proofs.Common.{◌≡◌, ℕ, ◌+◌, ◌<◌, Bool, true, false, cond, ◌||◌, eqb, List, [], ◌∷◌, map, Option, Some, None, refl, sym, subst, length-append, arith}
use Rattle.std.specs.Borrow.{Bor}
use Rattle.std.specs.Option.{option_copied, IsSome}
use Rattle.dms_face.specs.declared.totals.Totals.{Totals}
use Rattle.dms_face_font.specs.Font.{FontModel}
use Rattle.dms_face.specs.Face.{FaceModel, font_in, has_font}
use Rattle.dms_face.specs.declared.justification.Part.{Part}
use Rattle.dms_face.specs.Justification.{place_of_part, same_part}
use Rattle.dms_face.specs.Layout.{Layout, closed, with_page, with_part}
use Rattle.dms_face.specs.Room.{line_block, lines_fit}
use Rattle.dms_face.specs.Fit.{most_pages, is_taken}
use Rattle.dms_face.specs.OnePass.{page_fault, part_fault}
use Rattle.dms_face.specs.Totals.{Matches, Holds}

-- the open page is closed
pub page_matches : (totals : Totals) (layout : Layout) → Matches totals (record layout { lines = []; characters = []; gap = None })
    → Matches (record totals { pages = totals.pages + 1 }) (with_page layout)
page_matches totals layout matches = grind (arith, length-append)

-- the open page has room, and there are pages left
pub page_passes : (face : FaceModel) (totals : Totals) (layout : Layout) → Matches totals layout → lines_fit face (closed layout) ≡ true → totals.pages + 1 < most_pages
    → None ≡ page_fault face layout
page_passes face totals layout matches fit less = grind arith

-- a line opens in another part, which is free, and the open page has room
pub part_passes : (face : FaceModel) (layout : Layout) (part : Part) → same_part part layout.style.part ≡ false → is_taken (place_of_part part) (map line_block (closed layout)) ≡ false
    → lines_fit face (closed layout) ≡ true → None ≡ part_fault face layout part
part_passes face layout part apart free fit = grind arith

pub part_holds : (face : FaceModel) (totals : Totals) (layout : Layout) (part : Part) → same_part part layout.style.part ≡ false
    → Matches totals (record layout { lines = closed layout; characters = []; gap = None }) → lines_fit face (closed layout) ≡ true
    → Holds face (record totals { part = part }) (with_part layout (record layout.style { part = part }))
part_holds face totals layout part apart matches fit =
    let after : Layout = record { pages = layout.pages; lines = closed layout; characters = []; gap = None; style = record layout.style { part = part } } in
    subst (λ b. Holds face (record totals { part = part }) (cond b layout after)) (sym apart) (record { matches = grind arith; room = fit })

-- a font that is among these is found
pub font_found : (fonts : List FontModel) (number : ℕ) → has_font fonts number ≡ true → (font : FontModel) × (font_in fonts number ≡ Some font)
font_found [] number some = absurd (let wrong : false ≡ true = some in cc)
font_found (font ∷ fonts) number some =
    let M : Bool → Type 0 = λ b. (b || has_font fonts number) ≡ true → (found : FontModel) × (cond b (Some font) (font_in fonts number) ≡ Some found) in
    let go : (b : Bool) → M b = λ b. elim b as M [ true ↦ λ h. (font, refl) | false ↦ λ h. font_found fonts number h ] in
    go (eqb font.number number) some

pub some_copied : {A : Type 0} (o : Option (Bor A)) (x : A) → option_copied o ≡ Some x → IsSome o
some_copied o x is = grind arith
