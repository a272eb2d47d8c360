-- How many rows of one type of memory are valid, as it is kept beside them (this profile).
use Rattle.std.specs.Prelude.{◌≡◌, ◌≤◌, ℕ, List, length, count_by}
use Rattle.dms_codes.specs.Status.{is_valid}
use Rattle.dms_table.specs.Rows.{RowModel}

abbrev pub valid_among : List RowModel → ℕ
valid_among rows = count_by (λ (row : RowModel). is_valid row.status) rows

-- so many of these rows, of which there are at most 255, are valid
pub record AreCounted (rows : List RowModel) (valid : ℕ) : Type 0 where
  pub valid_is : valid ≡ valid_among rows
  pub few : length rows ≤ 255
