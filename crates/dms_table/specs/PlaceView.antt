-- The rows that can be changed, and where the one stands that is being validated (this profile).
use Rattle.std.specs.Prelude.{◌≡◌, ℕ, ◌+◌, Bool, true, if◌then◌else◌}
use Rattle.std.specs.Prelude.{List, Option, Some, None, option_map, slice_get, count_by}
use Rattle.dms_codes.specs.declared.memory.Memory.{Memory}
use Rattle.dms_codes.specs.declared.memory.Memory.TheVariants as memories
use Rattle.dms_codes.specs.Memory.{memory_of}
use Rattle.dms_table.specs.declared.writable.Writable.{Writable}
use Rattle.dms_table.specs.declared.writable.Writable.TheVariants.{Changeable, Volatile}
use Rattle.dms_table.specs.declared.writable.RowPlace.{RowPlace}
use Rattle.dms_table.specs.Rows.{RowModel, row_is_validating}

-- a type of memory, where its rows can be changed
abbrev pub writable_by : Option Memory → Option Writable
writable_by (Some memories.Changeable) = Some Changeable
writable_by (Some memories.Volatile) = Some Volatile
writable_by memory = None

-- the type of memory of a number, where its rows can be changed
abbrev pub writable : ℕ → Option Writable
writable memory = writable_by (memory_of memory)

-- of what there is of changeable and of volatile rows, that of one type
abbrev pub of_type : {A : Type 0} → Writable → A → A → A
of_type Changeable changeable volatile = changeable
of_type Volatile changeable volatile = volatile

-- the row at this index is being validated, and no other of these
pub record IsOnly (index : ℕ) (rows : List RowModel) : Type 0 where
  pub there : option_map row_is_validating (slice_get rows index) ≡ Some true
  pub one : count_by row_is_validating rows ≡ 1

-- the row at this place is being validated, and no other of all
pub record IsOnlyOfAll (place : RowPlace) (changeable volatile : List RowModel) : Type 0 where
  pub there : option_map row_is_validating (slice_get (of_type place.memory changeable volatile) place.index)
      ≡ Some true
  pub one : count_by row_is_validating changeable + count_by row_is_validating volatile ≡ 1

-- the row at this place alone is being validated, or none is
abbrev pub IsPlaced : Option RowPlace → (changeable volatile : List RowModel) → Type 0
IsPlaced None changeable volatile = count_by row_is_validating changeable + count_by row_is_validating volatile ≡ 0
IsPlaced (Some place) changeable volatile = IsOnlyOfAll place changeable volatile

-- the place once a row at another is being validated, or is not
abbrev pub validating_if : Bool → RowPlace → Option RowPlace → Option RowPlace
validating_if is_validating place validating = if is_validating then Some place else validating
