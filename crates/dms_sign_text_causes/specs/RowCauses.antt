-- Why a permanent row can not stand (this profile).
use Rattle.std.specs.Prelude.{ℕ, ◌==◌, ◌&&◌, not, if◌then◌else◌, List, length}
use Rattle.std.specs.Prelude.{nat_lt, Option, Some, None, Result, Ok, Err}
use Rattle.std.specs.Option.{option_or}
use Rattle.dms_codes.specs.Limits.{longest_text, longest_owner}
use Rattle.dms_face.specs.Face.{FaceModel}
use Rattle.dms_face.specs.Fit.{checked_text}
use Rattle.dms_face.specs.declared.multi_fault.MultiFault.{MultiFault}
use Rattle.dms_table.specs.declared.row.Services.{Services}
use Rattle.dms_table.specs.Rows.{RowModel}
use Rattle.dms_sign_text_causes.specs.declared.row_causes.RowCause.{RowCause}
use Rattle.dms_sign_text_causes.specs.declared.row_causes.RowCause.TheVariants as row

-- its parts are out of their ranges
abbrev pub range_cause : RowModel → Option RowCause
range_cause it =
    if nat_lt longest_text (length it.text) then Some row.LongText
    else if nat_lt longest_owner (length it.owner) then Some row.LongOwner
    else if nat_lt 1 it.beacon then Some row.Beacon
    else if nat_lt 1 it.pixel then Some row.Pixel
    else if nat_lt it.priority 1 then Some row.Priority
    else None

-- it wants what the sign has not
abbrev pub service_cause : Services → RowModel → Option RowCause
service_cause services it =
    if it.beacon == 1 && not services.beacon then Some row.NoBeacons
    else if it.pixel == 1 && not services.pixel then Some row.NoPixelService
    else None

abbrev pub fault_cause : Result ℕ MultiFault → Option RowCause
fault_cause (Ok pages) = None
fault_cause (Err fault) = Some (row.Text fault)

-- its text can not be shown on the face
abbrev pub text_cause : FaceModel → List ℕ → Option RowCause
text_cause face text = fault_cause (checked_text face text)

-- the first reason why a row can not stand
abbrev pub row_cause : Services → FaceModel → RowModel → Option RowCause
row_cause services face it =
    option_or (range_cause it) (option_or (service_cause services it) (text_cause face it.text))
