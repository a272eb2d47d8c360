-- A row is put where one is that is not used.
use Rattle.std.proofs.Common.{◌≡◌, ℕ, ◌+◌, ◌&&◌, not, Bool, true, false, cond, List, [], Option, Some, None, refl, ap, sym, ◌∙◌, arith}
use Rattle.std.specs.Option.{is_some}
use Rattle.std.proofs.lemmas.Option.{same_Some}
use Rattle.dms_codes.specs.declared.memory.Memory.{Memory}
use Rattle.dms_codes.specs.declared.row_id.RowId.{RowId}
use Rattle.dms_codes.specs.declared.status.Status.{Status}
use Rattle.dms_codes.specs.Memory.{memory_of}
use Rattle.dms_codes.specs.Status.{is_not_used, is_validating}
use Rattle.dms_table.specs.declared.row.Services.{Services}
use Rattle.dms_table.specs.declared.saved_row.RowFault.{RowFault}
use Rattle.dms_table.specs.declared.saved_row.RowFault.TheVariants as faults
use Rattle.dms_table.specs.declared.writable.Writable.{Writable}
use Rattle.dms_table.specs.declared.writable.RowPlace.{RowPlace}
use Rattle.dms_table.specs.Rows.{RowModel, TableModel, row_is_validating, numbered, changed_in, is_settling}
use Rattle.dms_table.specs.PlaceView.{writable_by, writable, of_type, validating_if, IsPlaced}
use Rattle.dms_table.specs.SavedRows.{put_over, place_fault, writable_rows_by, row_there, may_put, value_fault}
use Rattle.dms_table.proofs.OneRow.{count, weight, changed_one_row}
use Rattle.dms_table.proofs.Places.{Frees, kept_place, put_there, placed_settling}

-- ---- the row that is there

by_type : (memory : Option Memory) (table : TableModel) (kind : Writable) → writable_by memory ≡ Some kind
    → writable_rows_by table memory ≡ of_type kind table.changeable table.volatile
by_type memory table kind is = grind arith

pub there_of_type : (table : TableModel) (id : RowId) (kind : Writable) → writable id.memory ≡ Some kind
    → row_there table id ≡ numbered (of_type kind table.changeable table.volatile) id.number
there_of_type table id kind is = ap (λ (rows : List RowModel). numbered rows id.number) (by_type (memory_of id.memory) table kind is)

no_type : (memory : Option Memory) (table : TableModel) → writable_by memory ≡ None → writable_rows_by table memory ≡ []
no_type memory table is = grind arith

none_numbered : (number : ℕ) → numbered [] number ≡ None
none_numbered number = grind arith

pub none_there : (table : TableModel) (id : RowId) → writable id.memory ≡ None → place_fault (row_there table id) ≡ Some faults.Place
none_there table id is =
    ap place_fault (ap (λ (rows : List RowModel). numbered rows id.number) (no_type (memory_of id.memory) table is) ∙ none_numbered id.number)

-- ---- what is put is the row that is validated, or is not validated

frees_by : (status : Status) (put : RowModel) → is_some (cond (is_not_used status) (Some put) None) ≡ true → is_validating status ≡ false
frees_by status put taken = grind arith

put_frees : (put : RowModel) → Frees (put_over put)
put_frees put = λ row taken. frees_by row.status put taken

put_is : (free : Bool) (put new : RowModel) → cond free (Some put) None ≡ Some new → (free ≡ true) × (put ≡ new)
put_is true put new e = (refl, same_Some put new e)
put_is false put new e = absurd (cc)

unused_weight : (status : Status) → is_not_used status ≡ true → cond {A = ℕ} (is_validating status) 1 0 ≡ 0
unused_weight status is = grind arith

put_weight : (put row new : RowModel) → put_over put row ≡ Some new → weight new ≡ weight row + weight put
put_weight put row new e =
    let is = put_is (is_not_used row.status) put new e in
    let same : weight put ≡ weight new = ap weight is.1 in
    let none : weight row ≡ 0 = unused_weight row.status is.0 in
    omega (arith, same, none)

put_now : (put : RowModel) → row_is_validating put ≡ true → (row new : RowModel) → put_over put row ≡ Some new → row_is_validating new ≡ true
put_now put is row new e = sym (ap row_is_validating (put_is (is_not_used row.status) put new e).1) ∙ is

put_at : (validates : Bool) (memory : Writable) (validating : Option RowPlace) (put : RowModel) (changeable volatile more : List RowModel) (number index : ℕ)
    → row_is_validating put ≡ validates → (validates && is_some validating) ≡ false → index + 1 ≡ number
    → changed_in (of_type memory changeable volatile) number (put_over put) ≡ Some more → IsPlaced validating changeable volatile
    → IsPlaced (cond validates (Some (record { memory = memory; index = index })) validating) (of_type memory more changeable) (of_type memory volatile more)
put_at true memory (Some other) put changeable volatile more number index is free numbered changed placed = absurd (cc)
put_at true memory None put changeable volatile more number index is free numbered changed placed =
    put_there memory changeable volatile more number index (weight put) (put_over put) (put_now put is) (put_weight put) (ap (λ b. cond {A = ℕ} b 1 0) is) numbered changed placed
put_at false memory validating put changeable volatile more number index is free numbered changed placed =
    let none : weight put ≡ 0 = ap (λ b. cond {A = ℕ} b 1 0) is in
    let same : count more ≡ count (of_type memory changeable volatile) =
    omega (arith, none, changed_one_row (of_type memory changeable volatile) more number (weight put) (put_over put) (put_weight put) changed) in
    kept_place memory validating changeable volatile more number (put_over put) (put_frees put) changed same placed

not_true : (b : Bool) → not b ≡ true → b ≡ false
not_true b is = grind arith

used_by : (unused : Bool) (o : Option RowFault) → cond unused (Some faults.NotUsed) o ≡ None → unused ≡ false
used_by true o e = absurd (cc)
used_by false o e = refl

-- a row with which nothing is wrong is used
pub put_used : (services : Services) (put : RowModel) → value_fault services put ≡ None → is_not_used put.status ≡ false
put_used services put e = used_by (is_not_used put.status) _ e

pub put_place : (memory : Writable) (validating : Option RowPlace) (put : RowModel) (table : TableModel) (more : List RowModel) (number index : ℕ)
    → IsPlaced validating table.changeable table.volatile → may_put table put.status ≡ true → index + 1 ≡ number
    → changed_in (of_type memory table.changeable table.volatile) number (put_over put) ≡ Some more
    → IsPlaced (validating_if (row_is_validating put) (record { memory = memory; index = index }) validating) (of_type memory more table.changeable) (of_type memory table.volatile more)
put_place memory validating put table more number index placed may numbered changed =
    put_at (row_is_validating put) memory validating put table.changeable table.volatile more number index refl
    (ap (λ b. row_is_validating put && b) (sym (placed_settling validating table placed)) ∙ not_true (row_is_validating put && is_settling table) may) numbered changed placed
