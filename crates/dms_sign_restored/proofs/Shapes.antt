-- A table keeps the numbers of its rows, and those that are not used are empty.
use Rattle.std.proofs.Common.{◌≡◌, ℕ, ◌-◌, List, [], ◌∷◌, length, set, Option, Some, None, slice_set, refl, ap, sym, ◌∙◌}
use Rattle.std.specs.Prelude.{option_map, option_and_then}
use Rattle.std.specs.Option.{IfSome}
use Rattle.std.proofs.lemmas.List.{length-map, length-set}
use Rattle.std.proofs.lemmas.Option.{same_Some}
use Rattle.dms_codes.specs.declared.memory.Memory.{Memory}
use Rattle.dms_codes.specs.declared.memory.Memory.TheVariants.{Permanent, Changeable, Volatile, CurrentBuffer, Blank}
use Rattle.dms_codes.specs.declared.row_id.RowId.{RowId}
use Rattle.dms_codes.specs.declared.status.Ask.{Ask}
use Rattle.dms_codes.specs.Memory.{memory_of}
use Rattle.dms_face.specs.Face.{FaceModel}
use Rattle.dms_face.proofs.Lists.{if_either, if_or}
use Rattle.dms_table.specs.Rows.{RowModel, TableModel, FieldModel, numbered, changed_in, with_changeable, with_volatile, changed_by, changed, asked_row, may_ask, asked, written_row, written, interrupted, released, after_power}
use Rattle.dms_table.specs.SavedRows.{AreEmptyWhereUnused}
use Rattle.dms_table.specs.Validation.{settled_row, settled}
use Rattle.dms_table.proofs.EmptyRows.{LeavesEmpty, changed_empty, asked_empty, written_empty, settled_empty, interrupted_empty, released_empty}
use Rattle.dms_sign_access.specs.Access.{Write, SetNumber, SetCode, SetField, AskRow, Activate, SetRemaining}
use Rattle.dms_sign.specs.SetRequest.{with_write, with_writes}

-- a table with as many rows as at first, which are empty where they are not used
pub record HasShape (first table : TableModel) : Type 0 where
  pub changeable_count : length table.changeable ≡ length first.changeable
  pub volatile_count : length table.volatile ≡ length first.volatile
  pub changeable_empty : AreEmptyWhereUnused table.changeable
  pub volatile_empty : AreEmptyWhereUnused table.volatile

-- ---- a row that is changed

one_length : (rows more : List RowModel) (i : ℕ) (o : Option RowModel) → option_map (slice_set rows i) o ≡ Some more → length more ≡ length rows
one_length rows more i None e = absurd (cc)
one_length rows more i (Some row) e = sym (ap length (same_Some (set rows i row) more e)) ∙ length-set rows i row

there_length : (rows more : List RowModel) (i : ℕ) (change : RowModel → Option RowModel) (o : Option RowModel)
    → option_and_then (λ row. option_map (slice_set rows i) (change row)) o ≡ Some more → length more ≡ length rows
there_length rows more i change None e = absurd (cc)
there_length rows more i change (Some row) e = one_length rows more i (change row) e

changed_length : (rows more : List RowModel) (number : ℕ) (change : RowModel → Option RowModel) → changed_in rows number change ≡ Some more
    → length more ≡ length rows
changed_length rows more number change e = there_length rows more (number - 1) change (numbered rows number) e

changeable_shape : (first table : TableModel) (number : ℕ) (change : RowModel → Option RowModel) (o : Option (List RowModel)) → LeavesEmpty change
    → HasShape first table → changed_in table.changeable number change ≡ o → IfSome (option_map (with_changeable table) o) (HasShape first)
changeable_shape first table number change None each is e = tt
changeable_shape first table number change (Some rows) each is e = record {
  changeable_count = changed_length table.changeable rows number change e ∙ is.changeable_count;
  volatile_count = is.volatile_count;
  changeable_empty = changed_empty table.changeable rows number change each is.changeable_empty e;
  volatile_empty = is.volatile_empty;
}

volatile_shape : (first table : TableModel) (number : ℕ) (change : RowModel → Option RowModel) (o : Option (List RowModel)) → LeavesEmpty change
    → HasShape first table → changed_in table.volatile number change ≡ o → IfSome (option_map (with_volatile table) o) (HasShape first)
volatile_shape first table number change None each is e = tt
volatile_shape first table number change (Some rows) each is e = record {
  changeable_count = is.changeable_count;
  volatile_count = changed_length table.volatile rows number change e ∙ is.volatile_count;
  changeable_empty = is.changeable_empty;
  volatile_empty = changed_empty table.volatile rows number change each is.volatile_empty e;
}

by_memory : (first table : TableModel) (memory : Option Memory) (number : ℕ) (change : RowModel → Option RowModel) → LeavesEmpty change → HasShape first table
    → IfSome (changed_by table memory number change) (HasShape first)
by_memory first table (Some Changeable) number change each is = changeable_shape first table number change (changed_in table.changeable number change) each is refl
by_memory first table (Some Volatile) number change each is = volatile_shape first table number change (changed_in table.volatile number change) each is refl
by_memory first table (Some Permanent) number change each is = tt
by_memory first table (Some CurrentBuffer) number change each is = tt
by_memory first table (Some Blank) number change each is = tt
by_memory first table None number change each is = tt

-- ---- asking and writing

pub asked_shape : (first table : TableModel) (id : RowId) (ask : Ask) → HasShape first table → IfSome (asked table id ask) (HasShape first)
asked_shape first table id ask is =
    if_either (HasShape first) (may_ask table ask) (changed table id (asked_row ask)) None
    (by_memory first table (memory_of id.memory) id.number (asked_row ask) (asked_empty ask) is) tt

written_shape : (first table : TableModel) (id : RowId) (field : FieldModel) → HasShape first table → IfSome (written table id field) (HasShape first)
written_shape first table id field is = by_memory first table (memory_of id.memory) id.number (written_row field) (written_empty field) is

write_shape : (first table : TableModel) (write : Write) → HasShape first table → HasShape first (with_write table write)
write_shape first table (SetField id field) is = if_or (HasShape first) (written table id field) table (written_shape first table id field is) is
write_shape first table (SetNumber object number) is = is
write_shape first table (SetCode object octets) is = is
write_shape first table (AskRow id ask) is = is
write_shape first table (Activate octets) is = is
write_shape first table (SetRemaining minutes) is = is

pub writes_shape : (first table : TableModel) (writes : List Write) → HasShape first table → HasShape first (with_writes table writes)
writes_shape first table [] is = is
writes_shape first table (write ∷ writes) is = writes_shape first (with_write table write) writes (write_shape first table write is)

-- ---- settling, and a loss of power

pub settled_shape : (first : TableModel) (face : FaceModel) (table : TableModel) → HasShape first table → HasShape first (settled face table)
settled_shape first face table is = record {
  changeable_count = length-map table.changeable (settled_row table.services face) ∙ is.changeable_count;
  volatile_count = length-map table.volatile (settled_row table.services face) ∙ is.volatile_count;
  changeable_empty = settled_empty table.services face table.changeable is.changeable_empty;
  volatile_empty = settled_empty table.services face table.volatile is.volatile_empty;
}

pub power_shape : (first table : TableModel) → HasShape first table → HasShape first (after_power table)
power_shape first table is = record {
  changeable_count = length-map table.changeable interrupted ∙ is.changeable_count;
  volatile_count = length-map table.volatile released ∙ is.volatile_count;
  changeable_empty = interrupted_empty table.changeable is.changeable_empty;
  volatile_empty = released_empty table.volatile;
}
