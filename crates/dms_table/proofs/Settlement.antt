-- What settling makes of a table.
use Rattle.std.proofs.Common.{◌≡◌, ◌++◌, true, false, List, map, find, Option, None, All, arith}
use Rattle.std.specs.Prelude.{option_map}
use Rattle.std.specs.Option.{option_or}
use Rattle.std.proofs.lemmas.List.Folds.{find-append}
use Rattle.std.proofs.lemmas.Bool.{or_parts}
use Rattle.dms_face.specs.Face.{FaceModel}
use Rattle.dms_table.specs.declared.row.Services.{Services}
use Rattle.dms_table.specs.declared.validation.Verdict.{Verdict}
use Rattle.dms_table.specs.declared.writable.Writable.{Writable}
use Rattle.dms_table.specs.declared.writable.Writable.TheVariants.{Changeable, Volatile}
use Rattle.dms_table.specs.Rows.{RowModel, TableModel, row_is_validating, is_settling}
use Rattle.dms_table.specs.Validation.{settled_row, settled, verdict_of, verdict}
use Rattle.dms_table.specs.PlaceView.{of_type}
use Rattle.dms_table.proofs.OneRow.{count, unsettled, any_validating, not_found}
use Rattle.dms_table.proofs.Places.{none_all}
use Rattle.dms_table.proofs.Writables.{with_type}

-- what settling makes of the rows of one type of memory, where none of the other is being validated
settled_of_type : (memory : Writable) (services : Services) (face : FaceModel) (changeable volatile rows : List RowModel)
    → count (of_type memory volatile changeable) ≡ 0 → rows ≡ map (settled_row services face) (of_type memory changeable volatile)
    → (of_type memory rows changeable ≡ map (settled_row services face) changeable) × (of_type memory volatile rows ≡ map (settled_row services face) volatile)
settled_of_type memory services face changeable volatile rows p is = grind (arith, unsettled, any_validating)

pub settled_is : (face : FaceModel) (table : TableModel) (memory : Writable) (rows : List RowModel) → count (of_type memory table.volatile table.changeable) ≡ 0
    → rows ≡ map (settled_row table.services face) (of_type memory table.changeable table.volatile) → with_type table memory rows ≡ settled face table
settled_is face table memory rows p is = grind (arith, settled_of_type)

or-none : {A : Type 0} (o : Option A) → option_or o None ≡ o
or-none o = grind arith

found_of_type : (memory : Writable) (changeable volatile : List RowModel) → count (of_type memory volatile changeable) ≡ 0
    → find row_is_validating (of_type memory changeable volatile) ≡ find row_is_validating (changeable ++ volatile)
found_of_type memory changeable volatile p = grind (arith, find-append, not_found, any_validating, or-none)

pub verdict_is : (face : FaceModel) (table : TableModel) (memory : Writable) (o : Option Verdict) → count (of_type memory table.volatile table.changeable) ≡ 0
    → o ≡ option_map (verdict_of table.services face) (find row_is_validating (of_type memory table.changeable table.volatile)) → o ≡ verdict face table
verdict_is face table memory o p is = grind (arith, found_of_type)

-- what holds of each row of one type that is being validated holds of all
pub all_of_type : (memory : Writable) (P : RowModel → Type 0) (changeable volatile : List RowModel) → count (of_type memory volatile changeable) ≡ 0
    → All (λ row. row_is_validating row ≡ true → P row) (of_type memory changeable volatile)
    → All (λ row. row_is_validating row ≡ true → P row) changeable × All (λ row. row_is_validating row ≡ true → P row) volatile
all_of_type Changeable P changeable volatile none all = (all, none_all P volatile none)
all_of_type Volatile P changeable volatile none all = (none_all P changeable none, all)

-- ---- where no row is being validated

pub nothing_settled : (face : FaceModel) (table : TableModel) → is_settling table ≡ false → table ≡ settled face table
nothing_settled face table p = grind (arith, or_parts, unsettled)

pub no_verdict : (face : FaceModel) (table : TableModel) → is_settling table ≡ false → None ≡ verdict face table
no_verdict face table p = grind (arith, or_parts, find-append, not_found)
