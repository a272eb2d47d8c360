-- What the code's fields and views of rows are (this profile).
use Rattle.std.specs.Prelude.{◌≡◌, ◌≤◌, ℕ, List, length, true}
use Rattle.dms_codes.specs.declared.status.Status.{Status}
use Rattle.dms_codes.specs.Checksum.{message_checksum}
use Rattle.dms_codes.specs.Status.{is_valid}
use Rattle.dms_table.specs.declared.row.Field.{Field}
use Rattle.dms_table.specs.declared.row.Field.TheVariants as fields
use Rattle.dms_table.specs.declared.row.RowView.{RowView}
use Rattle.dms_table.specs.Rows.{RowReading, FieldModel, Text, Owner, Beacon, Pixel, Priority}
use Rattle.dms_codes.specs.Limits.{longest_text, longest_owner}

abbrev pub field_of : Field → FieldModel
field_of (fields.Text octets) = Text octets.now
field_of (fields.Owner octets) = Owner octets.now
field_of (fields.Beacon on) = Beacon on
field_of (fields.Pixel on) = Pixel on
field_of (fields.Priority priority) = Priority priority

abbrev pub reading_of : RowView → RowReading
reading_of view = record {
  row = record {
    text = view.text.now;
    owner = view.owner.now;
    beacon = view.beacon;
    pixel = view.pixel;
    priority = view.priority;
    status = view.status;
  };
  checksum = view.checksum;
}

-- there is room for its octets in a row
pub record IsShort (view : RowView) : Type 0 where
  pub text : length view.text.now ≤ longest_text
  pub owner : length view.owner.now ≤ longest_owner

-- a row keeps the checksum of its message while it is valid
pub record HasItsChecksum (text : List ℕ) (beacon pixel : ℕ) (status : Status) (checksum : ℕ) : Type 0 where
  pub is : is_valid status ≡ true → checksum ≡ message_checksum text beacon pixel
