-- Rows become valid by settling alone.
use Rattle.std.proofs.Common.{◌≡◌, ℕ, zero, suc, ◌-◌, ◌==◌, ◌&&◌, Bool, true, false, cond, List, [], ◌∷◌, map, set, Option, Some, None, slice_get, slice_set, All, get_or, refl, ap, sym, ◌∙◌, arith}
use Rattle.std.specs.Prelude.{option_map, option_and_then, unwrap_or}
use Rattle.dms_face.specs.declared.multi_fault.MultiFault.{MultiFault}
use Rattle.dms_face.specs.Face.{FaceModel}
use Rattle.dms_face.specs.Fit.{IsGood}
use Rattle.dms_face.proofs.GoodLaws.{faultless_law}
use Rattle.dms_codes.specs.declared.row_id.RowId.{RowId}
use Rattle.dms_table.specs.declared.row.Services.{Services}
use Rattle.dms_codes.specs.declared.status.Ask.{Ask}
use Rattle.dms_codes.specs.declared.status.Status.{Status}
use Rattle.dms_codes.specs.declared.status.Status.TheVariants.{NotUsed, Modifying, Valid}
use Rattle.dms_table.specs.declared.validation.Verdict.{Verdict}
use Rattle.dms_codes.specs.Status.{next_status, is_modifying}
use Rattle.dms_table.specs.Rows.{RowModel, TableModel, FieldModel, Text, Owner, Beacon, Pixel, Priority, unused, rows_of, numbered, blank_at, changed_in, with_changeable, with_volatile, changed_by, changed, with_status, asked_row, may_ask, asked, is_in_range, with_field, written_row, written, row_is_validating, after_power}
use Rattle.dms_codes.specs.declared.memory.Memory.{Memory}
use Rattle.dms_codes.specs.Memory.{memory_of, blank_memory}
use Rattle.dms_table.specs.Validation.{text_verdict, verdict_of, passes, settled, CameToBeValid, ValidRowsAreGood}
use Rattle.dms_table.proofs.GoodRows.{settled_rows_are_good}
use Rattle.dms_table.proofs.Memories.{no_blank_rows}
use Rattle.dms_sign_access.specs.Access.{Write}
use Rattle.dms_sign.specs.SetRequest.{with_write, with_writes}
use Rattle.dms_sign.specs.Transitions.{TableStep}

-- ---- tables in which no row becomes valid

pub record KeepsRows (old new : TableModel) : Type 0 where
  pub permanent : new.permanent ≡ old.permanent
  pub services : new.services ≡ old.services
  pub order : new.order ≡ old.order
  pub rows : (memory number : ℕ) (row : RowModel) → numbered (rows_of new memory) number ≡ Some row → row.status ≡ Valid
      → numbered (rows_of old memory) number ≡ Some row

pub rows_same : (table : TableModel) → KeepsRows table table
rows_same table = record { permanent = refl; services = refl; order = refl; rows = λ memory number row there valid. there }

pub rows_then : (a b c : TableModel) → KeepsRows a b → KeepsRows b c → KeepsRows a c
rows_then a b c one other = grind arith

pub step_kept : (face : FaceModel) (old new : TableModel) → KeepsRows old new → TableStep face old new
step_kept face old new keeps = grind arith

-- ---- lists

abbrev KeepsValid : List RowModel → List RowModel → Type 0
KeepsValid old new = (k : ℕ) (row : RowModel) → slice_get new k ≡ Some row → row.status ≡ Valid → slice_get old k ≡ Some row

-- a table with other changeable and volatile rows
both_kept : (table : TableModel) (more others : List RowModel) → KeepsValid table.changeable more → KeepsValid table.volatile others
    → KeepsRows table (record table { changeable = more; volatile = others })
both_kept table more others one other = grind arith

set_keeps : (rows : List RowModel) (i : ℕ) (new : RowModel) → (new.status ≡ Valid → ⊥) → KeepsValid rows (set rows i new)
set_keeps [] i new never k row there valid = there
set_keeps (x ∷ xs) zero new never zero row there valid = grind arith
set_keeps (x ∷ xs) zero new never (suc k) row there valid = there
set_keeps (x ∷ xs) (suc i) new never zero row there valid = there
set_keeps (x ∷ xs) (suc i) new never (suc k) row there valid = set_keeps xs i new never k row there valid

map_keeps : (f : RowModel → RowModel) (rows : List RowModel) → ((old row : RowModel) → f old ≡ row → row.status ≡ Valid → old ≡ row) → KeepsValid rows (map f rows)
map_keeps f [] each k row there valid = there
map_keeps f (x ∷ xs) each zero row there valid = let same : f x ≡ row = cc in ap Some (each x row same valid)
map_keeps f (x ∷ xs) each (suc k) row there valid = map_keeps f xs each k row there valid

-- ---- a row that is changed

-- a change after which a row is not valid
abbrev NeverValid : (RowModel → Option RowModel) → Type 0
NeverValid change = (row new : RowModel) → change row ≡ Some new → new.status ≡ Valid → ⊥

one_changed : (rows more : List RowModel) (i : ℕ) (o : Option RowModel) → ((new : RowModel) → o ≡ Some new → new.status ≡ Valid → ⊥)
    → option_map (slice_set rows i) o ≡ Some more → KeepsValid rows more
one_changed rows more i o never e = grind (arith, set_keeps)

there_changed : (rows more : List RowModel) (i : ℕ) (change : RowModel → Option RowModel) (o : Option RowModel) → NeverValid change
    → option_and_then (λ row. option_map (slice_set rows i) (change row)) o ≡ Some more → KeepsValid rows more
there_changed rows more i change None never e = absurd (cc)
there_changed rows more i change (Some row) never e = one_changed rows more i (change row) (never row) e

list_changed : (rows more : List RowModel) (number : ℕ) (change : RowModel → Option RowModel) → NeverValid change → changed_in rows number change ≡ Some more
    → KeepsValid rows more
list_changed rows more number change never e = there_changed rows more (number - 1) change (numbered rows number) never e

changeable_changed : (table new : TableModel) (o : Option (List RowModel)) → ((rows : List RowModel) → o ≡ Some rows → KeepsValid table.changeable rows)
    → option_map (with_changeable table) o ≡ Some new → KeepsRows table new
changeable_changed table new o each e = grind arith

volatile_changed : (table new : TableModel) (o : Option (List RowModel)) → ((rows : List RowModel) → o ≡ Some rows → KeepsValid table.volatile rows)
    → option_map (with_volatile table) o ≡ Some new → KeepsRows table new
volatile_changed table new o each e = grind arith

table_changed : (table new : TableModel) (memory : Option Memory) (number : ℕ) (change : RowModel → Option RowModel) → NeverValid change
    → changed_by table memory number change ≡ Some new → KeepsRows table new
table_changed table new memory number change never e = grind (arith, changeable_changed, list_changed, volatile_changed)

changed_keeps : (table new : TableModel) (id : RowId) (change : RowModel → Option RowModel) → NeverValid change → changed table id change ≡ Some new → KeepsRows table new
changed_keeps table new id change never e = table_changed table new (memory_of id.memory) id.number change never e

-- ---- asking

next_never : (status : Status) (ask : Ask) → next_status status ask ≡ Some Valid → ⊥
next_never status ask e = grind arith

asked_never_by : (row new : RowModel) (o : Option Status) → (o ≡ Some Valid → ⊥) → option_map (with_status row) o ≡ Some new → new.status ≡ Valid → ⊥
asked_never_by row new o never e valid = grind arith

asked_if : (b : Bool) (table new : TableModel) (id : RowId) (ask : Ask) → cond b (changed table id (asked_row ask)) None ≡ Some new → KeepsRows table new
asked_if true table new id ask e =
    changed_keeps table new id (asked_row ask) (λ row other. asked_never_by row other (next_status row.status ask) (next_never row.status ask)) e
asked_if false table new id ask e = absurd (cc)

pub asked_keeps : (table new : TableModel) (id : RowId) (ask : Ask) → asked table id ask ≡ Some new → KeepsRows table new
asked_keeps table new id ask e = asked_if (may_ask table ask) table new id ask e

-- ---- writing

pub field_status : (row : RowModel) (field : FieldModel) → (with_field row field).status ≡ row.status
field_status row (Text octets) = refl
field_status row (Owner octets) = refl
field_status row (Beacon on) = refl
field_status row (Pixel on) = refl
field_status row (Priority priority) = refl

written_never_by : (modifying in_range : Bool) (row other new : RowModel) → is_modifying row.status ≡ modifying → other.status ≡ row.status
    → cond (modifying && in_range) (Some other) None ≡ Some new → new.status ≡ Valid → ⊥
written_never_by modifying b row other new is same e valid = grind arith

written_keeps : (table new : TableModel) (id : RowId) (field : FieldModel) → written table id field ≡ Some new → KeepsRows table new
written_keeps table new id field e =
    changed_keeps table new id (written_row field)
    (λ row other. written_never_by (is_modifying row.status) (is_in_range field) row (with_field row field) other refl (field_status row field)) e

or_old : (table : TableModel) (o : Option TableModel) → ((new : TableModel) → o ≡ Some new → KeepsRows table new) → KeepsRows table (unwrap_or o table)
or_old table o each = grind arith

write_keeps : (table : TableModel) (write : Write) → KeepsRows table (with_write table write)
write_keeps table write = grind (arith, or_old, written_keeps, rows_same)

pub writes_keep : (table : TableModel) (writes : List Write) → KeepsRows table (with_writes table writes)
writes_keep table [] = rows_same table
writes_keep table (write ∷ writes) =
    rows_then table (with_write table write) (with_writes (with_write table write) writes) (write_keeps table write) (writes_keep (with_write table write) writes)

-- ---- a loss of power

interrupted_if : (b : Bool) (old row : RowModel) → cond b (record old { status = Modifying }) old ≡ row → row.status ≡ Valid → old ≡ row
interrupted_if b old row e valid = grind arith

released_from : (old row : RowModel) → unused ≡ row → row.status ≡ Valid → old ≡ row
released_from old row e valid = let k : NotUsed ≡ row.status = ap (λ (r : RowModel). r.status) e in absurd (cc)

pub after_power_keeps : (table : TableModel) → KeepsRows table (after_power table)
after_power_keeps table = grind (arith, both_kept, map_keeps, interrupted_if, released_from)

-- ---- settling

passes_on : (b : Bool) (wrong other : Verdict) → passes wrong ≡ false → passes (cond b wrong other) ≡ true → passes other ≡ true
passes_on b wrong other fails h = grind arith

text_passes : (o : Option MultiFault) → passes (text_verdict o) ≡ true → o ≡ None
text_passes o h = grind arith

pub good_where_passes : (services : Services) (face : FaceModel) (row : RowModel) → passes (verdict_of services face row) ≡ true → IsGood face row.text
good_where_passes services face row h = grind (arith, passes_on, faultless_law, text_passes)

abbrev IsFound : Services → FaceModel → RowModel → Type 0
IsFound services face row = row_is_validating row ≡ true → passes (verdict_of services face row) ≡ true → IsGood face row.text

all_found : (services : Services) (face : FaceModel) (rows : List RowModel) → All (IsFound services face) rows
all_found services face rows = λ k d within. λ validating passed. good_where_passes services face (get_or rows k d) passed

all_good : (face : FaceModel) (table : TableModel) → ValidRowsAreGood face table (settled face table)
all_good face table =
    settled_rows_are_good face table (settled face table) table.permanent table.changeable table.volatile table.services table.order refl
    (all_found table.services face table.changeable) (all_found table.services face table.volatile) refl

-- blank messages are kept in no table
none_at : (b : Bool) (k : ℕ) (row : RowModel) → cond b None (slice_get [] k) ≡ Some row → ⊥
none_at b k row e = grind arith

stored : (blank : Bool) (face : FaceModel) (old new : TableModel) (memory number : ℕ) (row : RowModel) → (memory == blank_memory) ≡ blank
    → (cond blank (blank_at number) (numbered (rows_of new memory) number) ≡ Some row
    → CameToBeValid old.services face (cond blank (blank_at number) (numbered (rows_of old memory) number)) row)
    → numbered (rows_of new memory) number ≡ Some row → CameToBeValid old.services face (numbered (rows_of old memory) number) row
stored true face old new memory number row is came there =
    absurd (none_at (number == 0) (number - 1) row (ap (λ (rows : List RowModel). numbered rows number) (sym (no_blank_rows new memory is)) ∙ there))
stored false face old new memory number row is came there = came there

pub settled_step : (face : FaceModel) (table : TableModel) → TableStep face table (settled face table)
settled_step face table = record {
  permanent = refl;
  services = refl;
  order = refl;
  rows = λ memory number row there valid.
      stored (memory == blank_memory) face table (settled face table) memory number row refl
      (λ e. all_good face table (record { memory = memory; number = number }) row e valid) there;
}
