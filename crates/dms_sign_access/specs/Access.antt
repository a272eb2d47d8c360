-- What may be written to the objects of a sign, and what a value writes there (NTCIP 1203, each object's ACCESS and
-- SYNTAX).
use Rattle.std.specs.Prelude.{ℕ, pos, ◌==◌, ◌&&◌, ◌||◌, Bool, true, false, if◌then◌else◌, List}
use Rattle.std.specs.Prelude.{length, nat_le, Option, Some, None, option_map, option_and_then}
use Rattle.dms_wire.specs.Message.{ObjectValue, integer, octet_string}
use Rattle.dms_face.specs.Face.{FaceModel, has_font}
use Rattle.dms_mib.specs.declared.column.Column.{Column}
use Rattle.dms_mib.specs.declared.column.Column.TheVariants as columns
use Rattle.dms_codes.specs.declared.row_id.RowId.{RowId}
use Rattle.dms_codes.specs.declared.status.Ask.{Ask}
use Rattle.dms_codes.specs.declared.status.Ask.TheVariants as asks
use Rattle.dms_table.specs.Rows.{FieldModel, Text, Owner, Beacon, Pixel, Priority}
use Rattle.dms_codes.specs.Memory.{changeable_memory, volatile_memory}
use Rattle.dms_codes.specs.Status.{ask_number}
use Rattle.dms_mib.specs.declared.scalar.Scalar.{Scalar}
use Rattle.dms_mib.specs.declared.scalar.Scalar.TheVariants.{DefaultFont, ActivateMessage, MessageTimeRemaining}
use Rattle.dms_mib.specs.declared.objects.Syntax.{Syntax}
use Rattle.dms_mib.specs.declared.objects.Syntax.TheVariants.{Range, Asks, Octets}
use Rattle.dms_mib.specs.Objects.{is_written, scalar_row, column_row}
use Rattle.dms_mib.specs.declared.instance.Instance.{Instance}
use Rattle.dms_mib.specs.declared.instance.Instance.TheVariants as kinds

-- ---- access

-- changeable and volatile rows can be written
abbrev pub has_writable_rows : ℕ → Bool
has_writable_rows memory = memory == changeable_memory || memory == volatile_memory

-- by the table of objects
abbrev pub is_settable_column : Column → Bool
is_settable_column column = is_written (column_row column).access

unfoldable pub is_settable_object : Scalar → Bool
is_settable_object object = is_written (scalar_row object).access

abbrev pub is_settable : Instance → Bool
is_settable (kinds.Scalar object) = is_settable_object object
is_settable (kinds.Cell column id) = is_settable_column column && has_writable_rows id.memory

-- ---- what a binding writes

-- The last three are commands.
pub data Write : Type 0 where
  SetNumber : Scalar → ℕ → Write
  -- the code of a message that the sign activates by itself
  SetCode : Scalar → List ℕ → Write
  SetField : RowId → FieldModel → Write
  AskRow : RowId → Ask → Write
  Activate : List ℕ → Write
  SetRemaining : ℕ → Write

abbrev pub is_command : Write → Bool
is_command (AskRow id ask) = true
is_command (Activate octets) = true
is_command (SetRemaining minutes) = true
is_command (SetNumber object number) = false
is_command (SetCode object octets) = false
is_command (SetField id field) = false

-- the number from low to high that a value is
abbrev pub number_in : (low high : ℕ) → ObjectValue → Option ℕ
number_in low high (integer (pos n)) = if nat_le low n && nat_le n high then Some n else None
number_in low high _ = None

-- the octets that a value is, from low to high of them
abbrev pub octets_in : (low high : ℕ) → ObjectValue → Option (List ℕ)
octets_in low high (octet_string octets) =
    if nat_le low (length octets) && nat_le (length octets) high then Some octets else None
octets_in low high _ = None

-- the number that may be written to an object of this syntax
abbrev pub writable_number : Syntax → ObjectValue → Option ℕ
writable_number (Range low high) value = number_in low high value
writable_number (Asks least most low high) value = number_in low high value
writable_number _ value = None

-- the octets that may be written to it
abbrev pub writable_octets : Syntax → ObjectValue → Option (List ℕ)
writable_octets (Octets low high) value = octets_in low high value
writable_octets _ value = None

-- the number of a font of the face that a value is
abbrev pub font_in : FaceModel → ObjectValue → Option ℕ
font_in face value =
    option_and_then (λ number. if has_font face.fonts number then Some number else None)
    (writable_number (scalar_row DefaultFont).syntax value)

-- what is asked of a row (NTCIP 1203, dmsMessageStatus)
abbrev pub ask_of : ℕ → Ask
ask_of number =
    if number == ask_number asks.Modify then asks.Modify
    else if number == ask_number asks.Validate then asks.Validate
    else asks.NotUsed

-- a setting: a code where the object has octets, a number where it has an integer
abbrev pub setting_in : Syntax → Scalar → ObjectValue → Option Write
setting_in (Octets low high) object value = option_map (SetCode object) (octets_in low high value)
setting_in syntax object value = option_map (SetNumber object) (writable_number syntax value)

-- what a value writes to an object that can be set; a number of a font has to be one of the face's, and two objects are
-- commands
abbrev pub setting_of : FaceModel → Scalar → ObjectValue → Option Write
setting_of face DefaultFont value = option_map (SetNumber DefaultFont) (font_in face value)
setting_of face ActivateMessage value = option_map Activate (writable_octets (scalar_row ActivateMessage).syntax value)
setting_of face MessageTimeRemaining value =
    option_map SetRemaining (writable_number (scalar_row MessageTimeRemaining).syntax value)
setting_of face object value = setting_in (scalar_row object).syntax object value

-- what a value writes to an object; none where its type, its length or its range is wrong
unfoldable pub object_write : FaceModel → Scalar → ObjectValue → Option Write
object_write face object value = if is_written (scalar_row object).access then setting_of face object value else None

-- the number or the octets that may be written to a column
abbrev pub number_in_column : Column → ObjectValue → Option ℕ
number_in_column column value = writable_number (column_row column).syntax value

abbrev pub octets_in_column : Column → ObjectValue → Option (List ℕ)
octets_in_column column value = writable_octets (column_row column).syntax value

unfoldable pub cell_write : Column → RowId → ObjectValue → Option Write
cell_write columns.MultiString id value =
    option_map (λ octets. SetField id (Text octets)) (octets_in_column columns.MultiString value)
cell_write columns.Owner id value =
    option_map (λ octets. SetField id (Owner octets)) (octets_in_column columns.Owner value)
cell_write columns.Beacon id value =
    option_map (λ number. SetField id (Beacon number)) (number_in_column columns.Beacon value)
cell_write columns.PixelService id value =
    option_map (λ number. SetField id (Pixel number)) (number_in_column columns.PixelService value)
cell_write columns.RunTimePriority id value =
    option_map (λ number. SetField id (Priority number)) (number_in_column columns.RunTimePriority value)
cell_write columns.Status id value =
    option_map (λ number. AskRow id (ask_of number)) (number_in_column columns.Status value)
cell_write _ id value = None

unfoldable pub write_of : FaceModel → Instance → ObjectValue → Option Write
write_of face (kinds.Scalar object) value = object_write face object value
write_of face (kinds.Cell column id) value = cell_write column id value
