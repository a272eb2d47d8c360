-- The rows of a sign by how many each type of memory has, and their places in the order of names (this profile).
use Rattle.std.specs.Prelude.{◌≡◌, ◌<◌, ◌≤◌, length, ℕ, ◌+◌, ◌*◌, nat_lt, ◌&&◌, Bool, Some}
use Rattle.dms_codes.specs.declared.row_id.RowId.{RowId}
use Rattle.dms_codes.specs.declared.memory.Memory.{Memory}
use Rattle.dms_codes.specs.declared.memory.Memory.TheVariants.{Permanent, Changeable, Volatile, CurrentBuffer, Blank}
use Rattle.dms_codes.specs.Memory.{memory_number, memory_of}
use Rattle.dms_table.specs.Rows.{TableModel}
use Rattle.dms_mib_instances.specs.declared.counts.Counts.{Counts}

-- these are the numbers of rows of a table
pub record HasCounts (table : TableModel) (n : Counts) : Type 0 where
  pub permanent : length table.permanent ≡ n.permanent
  pub changeable : length table.changeable ≡ n.changeable
  pub volatile : length table.volatile ≡ n.volatile

-- each is one of an octet
pub record AreOctets (n : Counts) : Type 0 where
  pub permanent : n.permanent < 256
  pub changeable : n.changeable < 256
  pub volatile : n.volatile < 256

-- the last number of a row of a type of memory, or 0 where it has no row
abbrev pub last_number : Counts → Memory → ℕ
last_number n Permanent = n.permanent
last_number n Changeable = n.changeable
last_number n Volatile = n.volatile
last_number n CurrentBuffer = 1
last_number n Blank = 255

-- there is the row: it is of a type of memory, and its number is from 1 to the last one there
pub record IsRow (n : Counts) (row : RowId) : Type 0 where
  pub memory : Memory
  pub of_memory : memory_of row.memory ≡ Some memory
  pub from_1 : 1 ≤ row.number
  pub to : row.number ≤ last_number n memory

-- the type of memory is above this number, and has a row
abbrev pub is_past : Counts → ℕ → Memory → Bool
is_past n number memory = nat_lt number (memory_number memory) && nat_lt 0 (last_number n memory)

-- A row's place in the order of names: rows come by their type of memory, and then by their number, which is below 256.
abbrev pub row_place : (memory number : ℕ) → ℕ
row_place memory number = 256 * memory + number

-- there is the row, it comes after this place, and no other that does comes before it
pub record IsFirstRow (n : Counts) (past : ℕ) (row : RowId) : Type 0 where
  pub there : IsRow n row
  pub after : past < row_place row.memory row.number
  pub first : (other : RowId) → IsRow n other → past < row_place other.memory other.number
      → row_place row.memory row.number ≤ row_place other.memory other.number
