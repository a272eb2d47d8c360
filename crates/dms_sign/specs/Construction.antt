-- Which signs can be made (this profile).
use Rattle.std.specs.Prelude.{◌≡◌, ◌≢◌, ◌&&◌, ◌≤◌, IsTrue, Bool, length, replicate}
use Rattle.std.specs.List.{list_all}
use Rattle.dms_face.specs.Face.{FaceModel, is_face}
use Rattle.dms_codes.specs.Limits.{most_permanent_rows, most_changeable_rows, most_volatile_rows, has_community_size}
use Rattle.dms_codes.specs.Status.{is_valid}
use Rattle.dms_table.specs.declared.row.Services.{Services}
use Rattle.dms_table.specs.Rows.{RowModel, TableModel, unused}
use Rattle.dms_table.specs.Validation.{verdict_of, passes}
use Rattle.dms_table.specs.Stock.{has_ranges}
use Rattle.dms_sign.specs.State.{ConfigModel}

-- a permanent row is valid, and one that could be validated
abbrev pub row_may_stand : Services → FaceModel → RowModel → Bool
row_may_stand services face row = is_valid row.status && has_ranges row && passes (verdict_of services face row)

-- Its rows are not too many; the changeable and the volatile ones are not used; the communities differ.
pub record CanBeMade (config : ConfigModel) (table : TableModel) : Type 0 where
  pub face : IsTrue (is_face config.face)
  pub permanent : length table.permanent ≤ most_permanent_rows
  pub rows : IsTrue (list_all (row_may_stand table.services config.face) table.permanent)
  pub changeable : length table.changeable ≤ most_changeable_rows
  pub changeable_unused : table.changeable ≡ replicate (length table.changeable) unused
  pub volatile : length table.volatile ≤ most_volatile_rows
  pub volatile_unused : table.volatile ≡ replicate (length table.volatile) unused
  pub reader : IsTrue (has_community_size config.reader)
  pub writer : IsTrue (has_community_size config.writer)
  pub differ : config.reader ≢ config.writer
