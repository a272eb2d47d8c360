-- Cells that show the same are one, and styles that are found in a list.
use Rattle.std.proofs.Common.{◌<◌, ◌≡◌, ℕ, ◌≤◌, Bool, true, false, List, [], ◌∷◌, length, Option, Some, None, refl, arith}
use Rattle.std.specs.List.{list_any, position, position_or_len}
use Rattle.std.proofs.lemmas.Bool.{cases_Bool, and_parts, and_from, eqb-true, eq-eqb}
use Rattle.std.proofs.lemmas.List.Quantifiers.{position-Some}
use Rattle.dms_multi.specs.declared.item.Lead.{Lead}
use Rattle.dms_face.specs.declared.cell.Flash.{Flash}
use Rattle.dms_face.specs.declared.cell.Cell.{Cell}
use Rattle.dms_face_pages.specs.Styled.{style, IsLitStyle}
use Rattle.dms_face_pages.specs.SameCells.{same_lead, same_flash, same_cell}
use Rattle.dms_face_pages.specs.Styles.{is_style}

same_lead_is : (one other : Lead) → same_lead one other ≡ true → one ≡ other
same_lead_is one other same = grind arith

same_flash_is : (one other : Option Flash) → same_flash one other ≡ true → one ≡ other
same_flash_is one other same = grind (arith, same_lead_is, and_parts, eqb-true)

pub same_cell_is : (one other : Cell) → same_cell one other ≡ true → one ≡ other
same_cell_is one other same = grind (arith, same_flash_is, and_parts, eqb-true)

same_lead_self : (lead : Lead) → same_lead lead lead ≡ true
same_lead_self lead = grind arith

same_flash_self : (flash : Option Flash) → same_flash flash flash ≡ true
same_flash_self flash = grind (arith, same_lead_self, and_from, eq-eqb)

pub same_cell_self : (cell : Cell) → same_cell cell cell ≡ true
same_cell_self cell = grind (arith, same_flash_self, and_from, eq-eqb)

none_from : {A : Type 0} (p : A → Bool) (xs : List A) → length xs ≤ position_or_len p xs → list_any p xs ≡ false
none_from p [] long = refl
none_from p (x ∷ xs) long = grind (arith, cases_Bool, none_from p xs)

pub not_found : (styles : List Cell) (cell : Cell) → position (same_cell cell) styles ≡ None → is_style styles cell ≡ false
not_found styles cell none = grind (arith, none_from)

pub found : (styles : List Cell) (lit : Cell) (place : ℕ) → lit.lit ≡ true → (style styles 0).lit ≡ false → position (same_cell lit) styles ≡ Some place
    → IsLitStyle styles place × (style styles place ≡ lit)
found styles lit place bright dark is = grind (arith, position-Some, same_cell_is)

pub found_at : (styles : List Cell) (lit : Cell) (place : ℕ) → lit.lit ≡ true → (style styles 0).lit ≡ false → place < length styles → same_cell lit (style styles place) ≡ true
    → IsLitStyle styles place × (style styles place ≡ lit)
found_at styles lit place bright dark below same = grind (arith, same_cell_is)

-- the one lit style
pub single : (styles : List Cell) (lit : Cell) → lit.lit ≡ true → (style styles 0).lit ≡ false → length styles ≡ 2 → is_style styles lit ≡ true → style styles 1 ≡ lit
single [] lit bright unlit_first two is = absurd (omega arith)
single (dark ∷ []) lit bright unlit_first two is = absurd (omega arith)
single (dark ∷ other ∷ []) lit bright unlit_first two is = grind (arith, cases_Bool, same_cell_is)
single (dark ∷ other ∷ third ∷ styles) lit bright unlit_first two is = absurd (omega arith)

pub ruleset finding = (found, found_at, not_found)
