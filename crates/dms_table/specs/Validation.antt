-- The validation of a row (NTCIP 1203, dmsValidateMessageError).
use Rattle.std.specs.Prelude.{◌≡◌, ℕ, ◌==◌, ◌&&◌, IsTrue, Bool, not, if◌then◌else◌}
use Rattle.std.specs.Prelude.{List, ◌++◌, map, find, Option, Some, None, option_map}
use Rattle.dms_face.specs.declared.multi_fault.MultiFault.{MultiFault}
use Rattle.dms_face.specs.Face.{FaceModel}
use Rattle.dms_face.specs.Fit.{IsGood, fault_of}
use Rattle.dms_codes.specs.declared.status.Status.TheVariants.{Valid, Validating, Error}
use Rattle.dms_codes.specs.declared.row_id.RowId.{RowId}
use Rattle.dms_codes.specs.declared.validation_error.ValidationError.{ValidationError}
use Rattle.dms_codes.specs.declared.validation_error.ValidationError.TheVariants as errors
use Rattle.dms_codes.specs.ValidationError.{validation_number}
use Rattle.dms_table.specs.declared.row.Services.{Services}
use Rattle.dms_table.specs.declared.validation.Verdict.{Verdict}
use Rattle.dms_table.specs.Rows.{RowModel, TableModel, row_is_validating, row_at, rows_of, numbered}

abbrev pub verdict_without_fault : ValidationError → Verdict
verdict_without_fault error = record { error = validation_number error; fault = None }

-- the verdict on a text: nothing is wrong, or it does not fit
abbrev pub text_verdict : Option MultiFault → Verdict
text_verdict None = verdict_without_fault errors.None
text_verdict (Some fault) = record { error = validation_number errors.SyntaxMulti; fault = Some fault }

-- The verdict on a message is the first of: a beacon, or a pixel service, that the sign has not; that on its text.
abbrev pub verdict_on : Services → FaceModel → List ℕ → ℕ → ℕ → Verdict
verdict_on services face text beacon pixel =
    if beacon == 1 && not services.beacon then verdict_without_fault errors.Beacons
    else if pixel == 1 && not services.pixel then verdict_without_fault errors.PixelService
    else text_verdict (fault_of face text)

abbrev pub verdict_of : Services → FaceModel → RowModel → Verdict
verdict_of services face row = verdict_on services face row.text row.beacon row.pixel

abbrev pub passes : Verdict → Bool
passes verdict = verdict.error == validation_number errors.None

-- a row that is being validated becomes valid, or an error
abbrev pub settled_row : Services → FaceModel → RowModel → RowModel
settled_row services face row =
    if row_is_validating row then record row { status = if passes (verdict_of services face row) then Valid else Error }
    else row

-- the table once the row that is being validated is settled
abbrev pub settled : FaceModel → TableModel → TableModel
settled face table = record table {
  changeable = map (settled_row table.services face) table.changeable;
  volatile = map (settled_row table.services face) table.volatile;
}

-- the row that is being validated
abbrev pub settling_row : TableModel → Option RowModel
settling_row table = find row_is_validating (table.changeable ++ table.volatile)

-- the verdict on it
abbrev pub verdict : FaceModel → TableModel → Option Verdict
verdict face table = option_map (verdict_of table.services face) (settling_row table)

-- A row that can be shown: its text is good, and the sign has what it needs.
pub record IsShowable (services : Services) (face : FaceModel) (row : RowModel) : Type 0 where
  pub good : IsGood face row.text
  pub has_beacon : row.beacon ≡ 1 → IsTrue services.beacon
  pub has_pixel : row.pixel ≡ 1 → IsTrue services.pixel

-- a row that is valid was so before, or it was being validated and can be shown
pub data CameToBeValid
    (services : Services) (face : FaceModel) (before : Option RowModel) (row : RowModel) : Type 0 where
  was_valid : before ≡ Some row → CameToBeValid services face before row
  was_settled : before ≡ Some (record row { status = Validating }) → IsShowable services face row
      → CameToBeValid services face before row

-- each row that is valid now
abbrev pub ValidRowsAreGood : FaceModel → TableModel → TableModel → Type 0
ValidRowsAreGood face old new =
    (id : RowId) (row : RowModel) → row_at new id ≡ Some row → row.status ≡ Valid
    → CameToBeValid old.services face (row_at old id) row

-- the text of the row of this number, where it is valid, is good on this face
abbrev pub HasGoodTextWhereValid : FaceModel → TableModel → ℕ → ℕ → Type 0
HasGoodTextWhereValid face table memory number =
    (row : RowModel) → numbered (rows_of table memory) number ≡ Some row → row.status ≡ Valid → IsGood face row.text
