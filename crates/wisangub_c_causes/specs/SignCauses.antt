-- A sign that can not be made, in numbers, as it is given to C (this profile).
use Rattle.std.specs.Prelude.{ℕ, Option, Some, None}
use Rattle.dms_codes.specs.Limits.{widest_matrix, highest_matrix, longest_community, longest_text, longest_owner}
use Rattle.dms_codes.specs.Limits.{most_permanent_rows, most_changeable_rows, most_volatile_rows}
use Rattle.dms_face.specs.Face.{most_fonts}
use Rattle.dms_face.specs.FaultCode.{number_of_code}
use Rattle.dms_face.specs.declared.multi_fault.MultiFault.{MultiFault}
use Rattle.dms_sign_text_causes.specs.declared.row_causes.RowCause.{RowCause}
use Rattle.dms_sign_text_causes.specs.declared.row_causes.RowCause.TheVariants as row
use Rattle.dms_sign_text_causes.specs.declared.sign_causes.SignCause.{SignCause}
use Rattle.dms_sign_text_causes.specs.declared.sign_causes.SignCause.TheVariants as sign
use Rattle.wisangub_c_causes.specs.declared.cause.Bounds.{Bounds}
use Rattle.wisangub_c_causes.specs.declared.cause.CauseNumbers.{CauseNumbers}
use Rattle.wisangub_c_causes.specs.Causes.{no_bounds, from_to}

-- ---- a permanent row

abbrev pub row_kind : RowCause → ℕ
row_kind row.LongText = 28
row_kind row.LongOwner = 29
row_kind row.Beacon = 30
row_kind row.Pixel = 31
row_kind row.Priority = 32
row_kind row.NoBeacons = 33
row_kind row.NoPixelService = 34
row_kind (row.Text fault) = 35

-- from which number, or from how many octets, to which
abbrev pub row_bounds : RowCause → Bounds
row_bounds row.LongText = from_to 0 longest_text
row_bounds row.LongOwner = from_to 0 longest_owner
row_bounds row.Beacon = from_to 0 1
row_bounds row.Pixel = from_to 0 1
row_bounds row.Priority = from_to 1 255
row_bounds cause = no_bounds

-- ---- the sign

abbrev pub sign_kind : SignCause → ℕ
sign_kind sign.NoColumns = 13
sign_kind sign.Wide = 13
sign_kind sign.NoRows = 14
sign_kind sign.High = 14
sign_kind sign.NoFont = 15
sign_kind sign.FifthFont = 15
sign_kind (sign.FontTwice number) = 16
sign_kind (sign.Background number) = 17
sign_kind (sign.Foreground number) = 18
sign_kind (sign.Line number) = 19
sign_kind (sign.Page number) = 20
sign_kind (sign.Font number) = 21
sign_kind sign.Reader = 22
sign_kind sign.Writer = 23
sign_kind sign.SameCommunities = 24
sign_kind sign.PermanentRows = 25
sign_kind sign.ChangeableRows = 26
sign_kind sign.VolatileRows = 27
sign_kind (sign.Row number cause) = row_kind cause

-- from which number, from how many octets, or from how many of them, to which
abbrev pub sign_bounds : SignCause → Bounds
sign_bounds sign.NoColumns = from_to 1 widest_matrix
sign_bounds sign.Wide = from_to 1 widest_matrix
sign_bounds sign.NoRows = from_to 1 highest_matrix
sign_bounds sign.High = from_to 1 highest_matrix
sign_bounds sign.NoFont = from_to 1 most_fonts
sign_bounds sign.FifthFont = from_to 1 most_fonts
sign_bounds (sign.Background number) = from_to 0 9
sign_bounds (sign.Foreground number) = from_to 0 9
sign_bounds (sign.Line number) = from_to 2 4
sign_bounds (sign.Page number) = from_to 2 4
sign_bounds sign.Reader = from_to 1 longest_community
sign_bounds sign.Writer = from_to 1 longest_community
sign_bounds sign.PermanentRows = from_to 0 most_permanent_rows
sign_bounds sign.ChangeableRows = from_to 0 most_changeable_rows
sign_bounds sign.VolatileRows = from_to 0 most_volatile_rows
sign_bounds (sign.Row number cause) = row_bounds cause
sign_bounds cause = no_bounds

-- the number that stands there, of a font or of a default
abbrev pub sign_number : SignCause → ℕ
sign_number (sign.FontTwice number) = number
sign_number (sign.Background number) = number
sign_number (sign.Foreground number) = number
sign_number (sign.Line number) = number
sign_number (sign.Page number) = number
sign_number (sign.Font number) = number
sign_number cause = 0

abbrev pub sign_row : SignCause → ℕ
sign_row (sign.Row number cause) = number
sign_row cause = 0

-- what is wrong with the row's text
abbrev pub row_fault : SignCause → Option MultiFault
row_fault (sign.Row number (row.Text fault)) = Some fault
row_fault cause = None

abbrev pub fault_place : Option MultiFault → ℕ
fault_place None = 0
fault_place (Some fault) = fault.place

abbrev pub fault_code : Option MultiFault → ℕ
fault_code None = 0
fault_code (Some fault) = number_of_code fault.code

-- the line ends a sign that can not be made
abbrev pub of_sign : ℕ → SignCause → CauseNumbers
of_sign line cause = record {
  line = line;
  word = 0;
  row = sign_row cause;
  place = fault_place (row_fault cause);
  least = (sign_bounds cause).least;
  most = (sign_bounds cause).most;
  kind = sign_kind cause;
  wanted = 0;
  number = sign_number cause;
  code = fault_code (row_fault cause);
}
