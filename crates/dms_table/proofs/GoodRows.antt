-- Rows that settling makes valid can be shown.
use Rattle.std.proofs.Common.{◌≡◌, ℕ, ◌-◌, ◌==◌, Bool, true, false, if◌then◌else◌, List, map, Option, Some, None, slice_get, All, subst, sym, arith}
use Rattle.std.specs.Prelude.{option_map}
use Rattle.std.proofs.lemmas.Option.{slice_get-map, slice_get_within, get_or_from_slice_get}
use Rattle.dms_face.specs.Face.{FaceModel}
use Rattle.dms_face.specs.Fit.{IsGood}
use Rattle.dms_codes.specs.declared.codes.Order.{Order}
use Rattle.dms_codes.specs.declared.status.Status.{Status}
use Rattle.dms_codes.specs.declared.status.Status.TheVariants.{Valid}
use Rattle.dms_table.specs.declared.row.Services.{Services}
use Rattle.dms_table.specs.declared.validation.Verdict.{Verdict}
use Rattle.dms_table.specs.Rows.{RowModel, TableModel, row_is_validating, rows_by, numbered, blank_at}
use Rattle.dms_codes.specs.declared.memory.Memory.{Memory}
use Rattle.dms_codes.specs.declared.memory.Memory.TheVariants.{Permanent, Changeable, Volatile, CurrentBuffer, Blank}
use Rattle.dms_codes.specs.Memory.{memory_of, blank_memory}
use Rattle.dms_table.specs.Validation.{verdict_of, passes, settled_row, settled, IsShowable, CameToBeValid, was_valid, ValidRowsAreGood}

-- a row that passes has a good text
abbrev IsFound : Services → FaceModel → RowModel → Type 0
IsFound services face row = row_is_validating row ≡ true → passes (verdict_of services face row) ≡ true → IsGood face row.text

-- ---- what a verdict says

passes_on : (b : Bool) (wrong other : Verdict) → passes wrong ≡ false → passes (if b then wrong else other) ≡ true → passes other ≡ true
passes_on b wrong other fails h = grind arith

-- a row that passes, of a good text, can be shown
pub showable : (services : Services) (face : FaceModel) (row : RowModel) → passes (verdict_of services face row) ≡ true → IsGood face row.text → IsShowable services face row
showable services face row h good = grind arith

-- ---- one row

abbrev in_status : Status → RowModel → RowModel
in_status status row = record row { status = status }

came_in : (services : Services) (face : FaceModel) (before : Option RowModel) (row : RowModel) → ((old : RowModel) → before ≡ Some old → IsFound services face old)
    → option_map (settled_row services face) before ≡ Some row → row.status ≡ Valid → CameToBeValid services face before row
came_in services face before row found e valid = grind arith

-- ---- rows of one type of memory

found_at : (services : Services) (face : FaceModel) (rows : List RowModel) (place : ℕ) → All (IsFound services face) rows → (old : RowModel) → slice_get rows place ≡ Some old → IsFound services face old
found_at services face rows place each old e =
    subst (IsFound services face) (get_or_from_slice_get rows place old old e) (each place old (slice_get_within rows place old e))

came_numbered : (b : Bool) (services : Services) (face : FaceModel) (rows : List RowModel) (place : ℕ) (row : RowModel) → All (IsFound services face) rows
    → (if b then None else slice_get (map (settled_row services face) rows) place) ≡ Some row → row.status ≡ Valid
    → CameToBeValid services face (if b then None else slice_get rows place) row
came_numbered b services face rows place row each e valid = grind (arith, came_in, slice_get, found_at, slice_get-map)

-- ---- rows of all types

came_at : (is_blank : Bool) (memory : Option Memory) (face : FaceModel) (table : TableModel) (number : ℕ) (row : RowModel)
    → All (IsFound table.services face) table.changeable → All (IsFound table.services face) table.volatile
    → (if is_blank then blank_at number else numbered (rows_by (settled face table) memory) number) ≡ Some row → row.status ≡ Valid
    → CameToBeValid table.services face (if is_blank then blank_at number else numbered (rows_by table memory) number) row
came_at true memory face table number row ones others e valid = was_valid e
came_at false (Some Changeable) face table number row ones others e valid = came_numbered (number == 0) table.services face table.changeable (number - 1) row ones e valid
came_at false (Some Volatile) face table number row ones others e valid = came_numbered (number == 0) table.services face table.volatile (number - 1) row others e valid
came_at false (Some Permanent) face table number row ones others e valid = was_valid e
came_at false (Some CurrentBuffer) face table number row ones others e valid = was_valid e
came_at false (Some Blank) face table number row ones others e valid = was_valid e
came_at false None face table number row ones others e valid = was_valid e

-- what settling leaves
pub settled_rows_are_good : (face : FaceModel) (table new : TableModel) (permanent changeable volatile : List RowModel) (services : Services) (order : Order)
    → record { permanent = permanent; changeable = changeable; volatile = volatile; services = services; order = order } ≡ table
    → All (IsFound services face) changeable → All (IsFound services face) volatile → new ≡ settled face table → ValidRowsAreGood face table new
settled_rows_are_good face table new permanent changeable volatile services order is ones others becomes =
    let whole : TableModel = record { permanent = permanent; changeable = changeable; volatile = volatile; services = services; order = order } in
    let here : ValidRowsAreGood face whole (settled face whole) = λ id row e valid.
    came_at (id.memory == blank_memory) (memory_of id.memory) face whole id.number row ones others e valid in
    subst (ValidRowsAreGood face table) (sym becomes) (subst (λ t. ValidRowsAreGood face t (settled face t)) is here)
