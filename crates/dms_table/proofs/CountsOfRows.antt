-- How many rows are valid, once rows are changed.
use Rattle.std.proofs.Common.{◌≡◌, ℕ, ◌+◌, ◌-◌, ◌<◌, ◌≤◌, ◌==◌, Bool, true, false, cond, List, [], ◌∷◌, map, length, length-set, get_or, set, slice_get, slice_set, Option, Some, None, Result, Ok, Err, refl, ap, sym, ◌∙◌, arith}
use Rattle.std.proofs.lemmas.Bool.Decides.{nat_tests}
use Rattle.std.specs.Prelude.{OnOk, OnErr, option_map, option_and_then}
use Rattle.std.proofs.lemmas.List.{length-map}
use Rattle.std.proofs.lemmas.List.Sums.{sum_by-set, sum_by-cons}
use Rattle.std.proofs.lemmas.Option.{slice_get_read}
use Rattle.dms_codes.specs.Status.{is_valid}
use Rattle.dms_face.specs.Face.{FaceModel}
use Rattle.dms_table.specs.declared.row.Refused.{Refused}
use Rattle.dms_table.specs.declared.row.Services.{Services}
use Rattle.dms_table.specs.Rows.{RowModel, unused, interrupted, released, numbered, changed_in, row_is_validating}
use Rattle.dms_table.specs.Validation.{settled_row, verdict_of, passes}
use Rattle.dms_table.specs.CountsView.{valid_among, AreCounted}

abbrev valid_weight : RowModel → ℕ
valid_weight row = cond (is_valid row.status) 1 0

-- ---- one row

-- the count once the row at an index has become another
pub counted_set : (rows : List RowModel) (index valid more_valid : ℕ) (row new : RowModel) → AreCounted rows valid
    → index < length rows → row ≡ get_or rows index row
    → more_valid + cond (is_valid row.status) 1 0 ≡ valid + cond (is_valid new.status) 1 0
    → AreCounted (set rows index new) more_valid
counted_set rows index valid more_valid row new are within there moved =
    let one : valid_among (set rows index new) + valid_weight (get_or rows index row) ≡ valid_among rows + valid_weight new =
    sum_by-set valid_weight rows index new row within in
    let same : valid_weight row ≡ valid_weight (get_or rows index row) = ap valid_weight there in
    record {
      valid_is = omega (arith, one, same, are.valid_is, moved);
      few = omega (arith, length-set rows index new, are.few);
    }

-- a row that is being validated is not valid
pub validating_is_not : (row : RowModel) → row_is_validating row ≡ true → cond {A = ℕ} (is_valid row.status) 1 0 ≡ 0
validating_is_not row is = grind arith

-- a row that was being validated is valid where it passes
pub settled_is_where : (services : Services) (face : FaceModel) (row : RowModel) → row_is_validating row ≡ true
    → cond {A = ℕ} (is_valid row.status) 1 0 + cond (is_valid (settled_row services face row).status) 1 0 ≡ cond (passes (verdict_of services face row)) 1 0
settled_is_where services face row is = grind arith

-- ---- the row of a number

number_not_zero : (number index : ℕ) → index + 1 ≡ number → (number == 0) ≡ false
number_not_zero number index is = grind (arith, nat_tests)

at_its_index : (zero : Bool) (rows : List RowModel) (at index : ℕ) (row : RowModel) → zero ≡ false → at ≡ index → slice_get rows index ≡ Some row
    → cond zero None (slice_get rows at) ≡ Some row
at_its_index zero rows at index row after same there = grind arith

-- it stands at the index before
pub numbered_at : (rows : List RowModel) (number index : ℕ) (row : RowModel) → index + 1 ≡ number → index < length rows → row ≡ get_or rows index row
    → numbered rows number ≡ Some row
numbered_at rows number index row is within there =
    at_its_index (number == 0) rows (number - 1) index row (number_not_zero number index is) (omega (arith, is)) (slice_get_read rows (length rows) index row refl within there)

-- what a change makes of it
changed_at : (rows : List RowModel) (number index : ℕ) (row : RowModel) (change : RowModel → Option RowModel) (o : Option RowModel)
    → index + 1 ≡ number → index < length rows → row ≡ get_or rows index row → change row ≡ o
    → changed_in rows number change ≡ option_map (slice_set rows index) o
changed_at rows number index row change o is within there e =
    let here : number - 1 ≡ index = omega (arith, is) in
    ap (option_and_then (λ row. option_map (slice_set rows (number - 1)) (change row))) (numbered_at rows number index row is within there)
    ∙ ap (option_map (slice_set rows (number - 1))) e ∙ ap (λ (i : ℕ). option_map (slice_set rows i) o) here

pub changed_to : (rows : List RowModel) (number index : ℕ) (row new : RowModel) (change : RowModel → Option RowModel)
    → index + 1 ≡ number → index < length rows → row ≡ get_or rows index row → change row ≡ Some new
    → changed_in rows number change ≡ Some (slice_set rows index new)
changed_to rows number index row new change is within there e = changed_at rows number index row change (Some new) is within there e

-- of a call that changes it or is refused
pub changed_if : (result : Result Unit Refused) (rows : List RowModel) (number index : ℕ) (row new : RowModel) (change : RowModel → Option RowModel)
    → index + 1 ≡ number → index < length rows → row ≡ get_or rows index row → OnOk result (change row ≡ Some new)
    → OnOk result (changed_in rows number change ≡ Some (slice_set rows index new))
changed_if (Ok done) rows number index row new change is within there e = changed_to rows number index row new change is within there e
changed_if (Err refused) rows number index row new change is within there e = e

pub refused_if : (result : Result Unit Refused) (rows : List RowModel) (number index : ℕ) (row : RowModel) (change : RowModel → Option RowModel)
    → index + 1 ≡ number → index < length rows → row ≡ get_or rows index row → OnErr result (change row ≡ None)
    → OnErr result (changed_in rows number change ≡ None)
refused_if (Ok done) rows number index row change is within there e = e
refused_if (Err refused) rows number index row change is within there e = changed_at rows number index row change None is within there e

-- ---- all rows

interrupted_valid : (row : RowModel) → valid_weight (interrupted row) ≡ valid_weight row
interrupted_valid row = grind arith

all_interrupted_valid : (rows : List RowModel) → valid_among (map interrupted rows) ≡ valid_among rows
all_interrupted_valid [] = refl
all_interrupted_valid (row ∷ rows) =
    omega (arith, sum_by-cons valid_weight (interrupted row) (map interrupted rows), sum_by-cons valid_weight row rows, interrupted_valid row, all_interrupted_valid rows)

pub counted_interrupted : (rows : List RowModel) (valid : ℕ) → AreCounted rows valid → AreCounted (map interrupted rows) valid
counted_interrupted rows valid are = record {
  valid_is = are.valid_is ∙ sym (all_interrupted_valid rows);
  few = omega (arith, length-map rows interrupted, are.few);
}

none_released_valid : (rows : List RowModel) → valid_among (map released rows) ≡ 0
none_released_valid [] = refl
none_released_valid (row ∷ rows) = omega (arith, sum_by-cons valid_weight unused (map released rows), none_released_valid rows)

pub counted_released : (rows : List RowModel) → length rows ≤ 255 → AreCounted (map released rows) 0
counted_released rows few = record {
  valid_is = sym (none_released_valid rows);
  few = omega (arith, length-map rows released, few);
}
