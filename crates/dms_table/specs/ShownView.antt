-- The checksum that what is shown keeps (this profile).
use Rattle.std.specs.Prelude.{◌≡◌, ◌==◌, ℕ, if◌then◌else◌, List, true}
use Rattle.dms_codes.specs.Checksum.{message_checksum}
use Rattle.dms_codes.specs.Memory.{blank_memory}
use Rattle.dms_codes.specs.Status.{is_valid}
use Rattle.dms_table.specs.Rows.{RowReading}

-- the checksum of a message of this type of memory, as it is read while the message is shown: 0 of a blank one
abbrev pub shown_checksum : ℕ → List ℕ → ℕ → ℕ → ℕ
shown_checksum memory text beacon pixel = if memory == blank_memory then 0 else message_checksum text beacon pixel

-- what is shown keeps it
pub record KeepsItsChecksum (memory : ℕ) (text : List ℕ) (beacon pixel checksum : ℕ) : Type 0 where
  pub is : checksum ≡ shown_checksum memory text beacon pixel

-- what is read of a row of this type of memory has it, where the row is valid
pub record HasItWhereValid (memory : ℕ) (reading : RowReading) : Type 0 where
  pub is : is_valid reading.row.status ≡ true
      → reading.checksum ≡ shown_checksum memory reading.row.text reading.row.beacon reading.row.pixel
