-- Rows that are not used are empty.
use Rattle.std.proofs.Common.{◌≡◌, ℕ, ◌-◌, ◌==◌, ◌&&◌, Bool, true, false, cond, List, map, set, replicate, Option, Some, None, Result, Ok, Err, slice_get, slice_set, refl, ap, sym, subst, ◌∙◌, arith}
use Rattle.std.specs.Prelude.{OnOk, OnErr, option_map, option_and_then}
use Rattle.std.proofs.lemmas.List.Elements.{All-set, All-map, All-replicate}
use Rattle.std.proofs.lemmas.Option.{same_Some}
use Rattle.dms_codes.specs.declared.status.Status.{Status}
use Rattle.dms_codes.specs.declared.status.Status.TheVariants as statuses
use Rattle.dms_codes.specs.declared.status.Ask.{Ask}
use Rattle.dms_codes.specs.Status.{next_status, is_not_used, is_modifying}
use Rattle.dms_face.specs.Face.{FaceModel}
use Rattle.dms_table.specs.declared.row.Services.{Services}
use Rattle.dms_table.specs.declared.row.Refused.{Refused}
use Rattle.dms_table.specs.declared.writable.Writable.{Writable}
use Rattle.dms_table.specs.declared.writable.Writable.TheVariants.{Changeable, Volatile}
use Rattle.dms_table.specs.Rows.{RowModel, FieldModel, unused, with_status, with_field, asked_row, written_row, is_in_range, changed_in, interrupted, released, row_is_validating}
use Rattle.dms_table.specs.Validation.{settled_row, verdict_of, passes}
use Rattle.dms_table.specs.PlaceView.{of_type}
use Rattle.dms_table.specs.SavedRows.{IsEmptyWhereUnused, AreEmptyWhereUnused, put_over}

-- ---- a row that is changed

-- a change after which a row is empty where it is not used
abbrev pub LeavesEmpty : (RowModel → Option RowModel) → Type 0
LeavesEmpty change = (row new : RowModel) → change row ≡ Some new → IsEmptyWhereUnused new

one_changed : (rows more : List RowModel) (i : ℕ) (o : Option RowModel) → ((new : RowModel) → o ≡ Some new → IsEmptyWhereUnused new)
    → AreEmptyWhereUnused rows → option_map (slice_set rows i) o ≡ Some more → AreEmptyWhereUnused more
one_changed rows more i None each are e = absurd (cc)
one_changed rows more i (Some new) each are e =
    subst AreEmptyWhereUnused (same_Some (set rows i new) more e) (All-set IsEmptyWhereUnused rows i new (each new refl) are)

there_changed : (rows more : List RowModel) (i : ℕ) (change : RowModel → Option RowModel) (o : Option RowModel) → LeavesEmpty change
    → AreEmptyWhereUnused rows → option_and_then (λ row. option_map (slice_set rows i) (change row)) o ≡ Some more → AreEmptyWhereUnused more
there_changed rows more i change None each are e = absurd (cc)
there_changed rows more i change (Some row) each are e = one_changed rows more i (change row) (each row) are e

pub changed_empty : (rows more : List RowModel) (number : ℕ) (change : RowModel → Option RowModel) → LeavesEmpty change
    → AreEmptyWhereUnused rows → changed_in rows number change ≡ Some more → AreEmptyWhereUnused more
changed_empty rows more number change each are e =
    there_changed rows more (number - 1) change (cond (number == 0) None (slice_get rows (number - 1))) each are e

-- ---- asking, writing and putting

status_empty : (row : RowModel) (status : Status) → IsEmptyWhereUnused (with_status row status)
status_empty row statuses.NotUsed = λ is. refl
status_empty row statuses.Modifying = λ is. absurd (cc)
status_empty row statuses.Validating = λ is. absurd (cc)
status_empty row statuses.Valid = λ is. absurd (cc)
status_empty row statuses.Error = λ is. absurd (cc)

some_status_empty : (row new : RowModel) (o : Option Status) → option_map (with_status row) o ≡ Some new → IsEmptyWhereUnused new
some_status_empty row new None e = absurd (cc)
some_status_empty row new (Some status) e = subst IsEmptyWhereUnused (same_Some (with_status row status) new e) (status_empty row status)

pub asked_empty : (ask : Ask) → LeavesEmpty (asked_row ask)
asked_empty ask = λ row new e. some_status_empty row new (next_status row.status ask) e

is_used : (status : Status) → is_modifying status ≡ true → is_not_used status ≡ true → ⊥
is_used status modifying unused = grind arith

field_status : (row : RowModel) (field : FieldModel) → (with_field row field).status ≡ row.status
field_status row field = grind arith

field_empty : (is inside : Bool) (row new : RowModel) (field : FieldModel) → is_modifying row.status ≡ is
    → cond (is && inside) (Some (with_field row field)) None ≡ Some new → IsEmptyWhereUnused new
field_empty true true row new field is e =
    subst IsEmptyWhereUnused (same_Some (with_field row field) new e)
    (λ unused. absurd (is_used row.status is (ap is_not_used (sym (field_status row field)) ∙ unused)))
field_empty true false row new field is e = absurd (cc)
field_empty false inside row new field is e = absurd (cc)

pub written_empty : (field : FieldModel) → LeavesEmpty (written_row field)
written_empty field = λ row new e. field_empty (is_modifying row.status) (is_in_range field) row new field refl e

over_empty : (free : Bool) (put new : RowModel) → is_not_used put.status ≡ false → cond free (Some put) None ≡ Some new → IsEmptyWhereUnused new
over_empty true put new is e = subst IsEmptyWhereUnused (same_Some put new e) (λ unused. absurd (cc))
over_empty false put new is e = absurd (cc)

pub put_empty : (put : RowModel) → is_not_used put.status ≡ false → LeavesEmpty (put_over put)
put_empty put is = λ row new e. over_empty (is_not_used row.status) put new is e

-- ---- rows of one type of memory, among all

pub record AreBothEmpty (changeable volatile : List RowModel) : Type 0 where
  pub changeable_empty : AreEmptyWhereUnused changeable
  pub volatile_empty : AreEmptyWhereUnused volatile

pub both_changed : (memory : Writable) (changeable volatile more : List RowModel) (number : ℕ) (change : RowModel → Option RowModel) → LeavesEmpty change
    → AreEmptyWhereUnused changeable → AreEmptyWhereUnused volatile → changed_in (of_type memory changeable volatile) number change ≡ Some more
    → AreBothEmpty (of_type memory more changeable) (of_type memory volatile more)
both_changed Changeable changeable volatile more number change each one other e =
    record { changeable_empty = changed_empty changeable more number change each one e; volatile_empty = other }
both_changed Volatile changeable volatile more number change each one other e =
    record { changeable_empty = one; volatile_empty = changed_empty volatile more number change each other e }

both_same : (memory : Writable) (changeable volatile more : List RowModel) → AreEmptyWhereUnused changeable → AreEmptyWhereUnused volatile
    → more ≡ of_type memory changeable volatile → AreBothEmpty (of_type memory more changeable) (of_type memory volatile more)
both_same Changeable changeable volatile more one other e = record { changeable_empty = subst AreEmptyWhereUnused (sym e) one; volatile_empty = other }
both_same Volatile changeable volatile more one other e = record { changeable_empty = one; volatile_empty = subst AreEmptyWhereUnused (sym e) other }

-- a row was written, or not
pub both_written : (memory : Writable) (field : FieldModel) (changeable volatile more : List RowModel) (number : ℕ)
    (result : Result Unit Refused) → OnOk result (changed_in (of_type memory changeable volatile) number (written_row field) ≡ Some more)
    → OnErr result (more ≡ of_type memory changeable volatile)
    → AreEmptyWhereUnused changeable → AreEmptyWhereUnused volatile → AreBothEmpty (of_type memory more changeable) (of_type memory volatile more)
both_written memory field changeable volatile more number (Ok done) ok unchanged one other =
    both_changed memory changeable volatile more number (written_row field) (written_empty field) one other ok
both_written memory field changeable volatile more number (Err refused) ok unchanged one other =
    both_same memory changeable volatile more one other unchanged

-- ---- all rows

-- a function of a row that leaves it empty where it is not used
abbrev KeepsEmpty : (RowModel → RowModel) → Type 0
KeepsEmpty f = (row : RowModel) → IsEmptyWhereUnused row → IsEmptyWhereUnused (f row)

mapped_empty : (f : RowModel → RowModel) (rows : List RowModel) → KeepsEmpty f → AreEmptyWhereUnused rows → AreEmptyWhereUnused (map f rows)
mapped_empty f rows each are = All-map IsEmptyWhereUnused f rows (λ k d within. each _ (are k d within))

settled_by : (validating passed : Bool) (row : RowModel) → IsEmptyWhereUnused row
    → IsEmptyWhereUnused (cond validating (record row { status = cond passed statuses.Valid statuses.Error }) row)
settled_by true true row is = λ unused. absurd (cc)
settled_by true false row is = λ unused. absurd (cc)
settled_by false passed row is = is

pub settled_empty : (services : Services) (face : FaceModel) (rows : List RowModel) → AreEmptyWhereUnused rows → AreEmptyWhereUnused (map (settled_row services face) rows)
settled_empty services face rows are =
    mapped_empty (settled_row services face) rows (λ row is. settled_by (row_is_validating row) (passes (verdict_of services face row)) row is) are

interrupted_by : (validating : Bool) (row : RowModel) → IsEmptyWhereUnused row → IsEmptyWhereUnused (cond validating (record row { status = statuses.Modifying }) row)
interrupted_by true row is = λ unused. absurd (cc)
interrupted_by false row is = is

pub interrupted_empty : (rows : List RowModel) → AreEmptyWhereUnused rows → AreEmptyWhereUnused (map interrupted rows)
interrupted_empty rows are = mapped_empty interrupted rows (λ row is. interrupted_by (row_is_validating row) row is) are

pub released_empty : (rows : List RowModel) → AreEmptyWhereUnused (map released rows)
released_empty rows = All-map IsEmptyWhereUnused released rows (λ k d within unused. refl)

pub unused_empty : (n : ℕ) → AreEmptyWhereUnused (replicate n unused)
unused_empty n = All-replicate IsEmptyWhereUnused n unused (λ is. refl)

-- the rows of one type are settled
pub both_settled : (memory : Writable) (services : Services) (face : FaceModel) (changeable volatile more : List RowModel)
    → AreEmptyWhereUnused changeable → AreEmptyWhereUnused volatile → more ≡ map (settled_row services face) (of_type memory changeable volatile)
    → AreBothEmpty (of_type memory more changeable) (of_type memory volatile more)
both_settled Changeable services face changeable volatile more one other e =
    record { changeable_empty = subst AreEmptyWhereUnused (sym e) (settled_empty services face changeable one); volatile_empty = other }
both_settled Volatile services face changeable volatile more one other e =
    record { changeable_empty = one; volatile_empty = subst AreEmptyWhereUnused (sym e) (settled_empty services face volatile other) }
