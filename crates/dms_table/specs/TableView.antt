-- What holds of the fields of every table (this profile).
use Rattle.std.specs.Prelude.{◌≤◌, List, Option, length}
use Rattle.dms_codes.specs.Limits.{longest_text, longest_owner}
use Rattle.dms_table.specs.declared.saved_row.SavedRow.{SavedRow}
use Rattle.dms_table.specs.declared.saved_shown.SavedShown.{SavedShown}
use Rattle.dms_table.specs.declared.writable.RowPlace.{RowPlace}
use Rattle.dms_table.specs.Rows.{RowModel}
use Rattle.dms_table.specs.PlaceView.{IsPlaced}
use Rattle.dms_table.specs.SavedRows.{AreEmptyWhereUnused}

-- the place is that of the row that is being validated, and rows that are not used are empty
pub record IsTableKept (validating : Option RowPlace) (changeable volatile : List RowModel) : Type 0 where
  pub placed : IsPlaced validating changeable volatile
  pub changeable_empty : AreEmptyWhereUnused changeable
  pub volatile_empty : AreEmptyWhereUnused volatile

-- there is room for its octets in a row
pub record FitsARow (row : SavedRow) : Type 0 where
  pub text : length row.text.now ≤ longest_text
  pub owner : length row.owner.now ≤ longest_owner

-- there is room for its octets in a message that is shown
pub record FitsShown (saved : SavedShown) : Type 0 where
  pub text : length saved.text.now ≤ longest_text
  pub owner : length saved.owner.now ≤ longest_owner
