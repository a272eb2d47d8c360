-- What messages are validated against, and what comes of it (this profile).
use Rattle.std.specs.Prelude.{◌≡◌, true}
use Rattle.dms_face.specs.Face.{FaceModel}
use Rattle.dms_face.specs.Layout.{under}
use Rattle.dms_face.specs.Fit.{IsGood}
use Rattle.dms_table.specs.declared.validation.Validator.{Validator}
use Rattle.dms_table.specs.declared.validation.Verdict.{Verdict}
use Rattle.dms_table.specs.Rows.{RowModel, row_is_validating}
use Rattle.dms_table.specs.Validation.{verdict_of, settled_row, passes}

-- the face under the defaults
abbrev pub face_of : Validator → FaceModel
face_of validator = under validator.face.now validator.defaults.now

abbrev pub settled_by : Validator → RowModel → RowModel
settled_by validator row = settled_row validator.services (face_of validator) row

abbrev pub verdict_by : Validator → RowModel → Verdict
verdict_by validator row = verdict_of validator.services (face_of validator) row

-- a row that passes has a good text
abbrev pub IsJudged : Validator → RowModel → Type 0
IsJudged validator row =
    row_is_validating row ≡ true → passes (verdict_by validator row) ≡ true → IsGood (face_of validator) row.text
