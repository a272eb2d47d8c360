-- What a sign reports of its verdicts and decisions (NTCIP 1203, each object by its name; the values at the start are
-- this profile's).
use Rattle.std.specs.Prelude.{ℕ, ◌==◌, ◌&&◌, ◌||◌, Bool, not, if◌then◌else◌, nat_le}
use Rattle.std.specs.Prelude.{List, Option, Some, None, ⊤, ◌≤◌, replicate}
use Rattle.dms_face.specs.declared.multi_fault.MultiFault.{MultiFault}
use Rattle.dms_face.specs.declared.multi_fault.MultiFaultCode.TheVariants as codes
use Rattle.dms_face.specs.FaultCode.{number_of_code}
use Rattle.dms_codes.specs.Limits.{longest_text}
use Rattle.dms_codes.specs.declared.validation_error.ValidationError.TheVariants as errors
use Rattle.dms_codes.specs.ValidationError.{validation_number}
use Rattle.dms_table.specs.declared.activation.Cause.{Cause}
use Rattle.dms_table.specs.declared.activation.Cause.TheVariants as causes
use Rattle.dms_table.specs.declared.validation.Verdict.{Verdict}
use Rattle.dms_table.specs.Activation.{cause_number}
use Rattle.dms_sign_access.specs.declared.reports.Reports.{Reports}
use Rattle.dms_sign_access.specs.declared.reports.ReportFault.{ReportFault}
use Rattle.dms_sign_access.specs.declared.reports.ReportFault.TheVariants as faults

-- the error of nothing that is wrong: none, of an activation and of a text (NTCIP 1203, dmsActivateMsgError and
-- dmsMultiSyntaxError)
abbrev pub no_error : ℕ
no_error = 2

-- nothing was judged, no code came: the errors are none, the codes zeros
abbrev pub first_reports : Reports
first_reports = record {
  validate_error = validation_number errors.None;
  activate_error = no_error;
  syntax_error = no_error;
  syntax_error_position = 0;
  accepted_code = replicate 12 0;
  failed_code = replicate 12 0;
}

-- ---- texts

abbrev pub with_fault : Reports → MultiFault → Reports
with_fault reports fault =
    record reports { syntax_error = number_of_code fault.code; syntax_error_position = fault.place }

-- what is reported of a text: its fault, or that it has none (NTCIP 1203, dmsMultiSyntaxError)
abbrev pub text_reports : Reports → Option MultiFault → Reports
text_reports reports None = record reports { syntax_error = no_error; syntax_error_position = 0 }
text_reports reports (Some fault) = with_fault reports fault

-- what is reported where a row was settled (NTCIP 1203, dmsValidateMessageError)
abbrev pub settled_reports : Reports → Option Verdict → Reports
settled_reports reports None = reports
settled_reports reports (Some verdict) = record (text_reports reports verdict.fault) { validate_error = verdict.error }

-- ---- codes

-- A text that is wrong has its fault reported; other causes leave what is reported of texts.
abbrev pub with_cause : Reports → Cause → Reports
with_cause reports (causes.Syntax fault) = with_fault reports fault
with_cause reports _ = reports

-- what is reported of a code that is refused (NTCIP 1203, dmsActivateMsgError and dmsActivateErrorMsgCode)
abbrev pub refused_reports : Reports → Cause → List ℕ → Reports
refused_reports reports cause code =
    record (with_cause reports cause) { activate_error = cause_number cause; failed_code = code }

-- what is reported of a code that is accepted
abbrev pub accepted_reports : Reports → List ℕ → Reports
accepted_reports reports code = record reports { activate_error = no_error; accepted_code = code }

-- the place of a fault lies in a text or at its end
abbrev pub IsCauseInRange : Cause → Type 0
IsCauseInRange (causes.Syntax fault) = fault.place ≤ longest_text
IsCauseInRange causes.MemoryType = ⊤
IsCauseInRange causes.Number = ⊤
IsCauseInRange causes.Status = ⊤
IsCauseInRange causes.Checksum = ⊤
IsCauseInRange causes.Priority = ⊤

-- ---- what a sign can report

abbrev pub is_within : ℕ → ℕ → ℕ → Bool
is_within least most number = nat_le least number && nat_le number most

-- a verdict's error, or none
abbrev pub is_validation_error : ℕ → Bool
is_validation_error = is_within (validation_number errors.None) (validation_number errors.SyntaxMulti)

-- a cause's number (`cause_number`: 3 to 8), or none
abbrev pub is_activation_error : ℕ → Bool
is_activation_error = is_within no_error 8

-- the number of a fault that a text has
abbrev pub is_text_error : ℕ → Bool
is_text_error number =
    is_within (number_of_code codes.UnsupportedTag) (number_of_code codes.CharacterNotDefined) number
    || is_within (number_of_code codes.TagConflict) (number_of_code codes.FontVersionId) number

abbrev pub is_syntax_error : ℕ → Bool
is_syntax_error number = number == no_error || is_text_error number

-- No fault stands at no place, and a text's fault in a text or at its end.
abbrev pub is_place_of : ℕ → ℕ → Bool
is_place_of number place = if number == no_error then place == 0 else nat_le place longest_text

-- the first thing for which no sign reports this
abbrev pub report_fault : Reports → Option ReportFault
report_fault reports =
    if not (is_validation_error reports.validate_error) then Some faults.ValidateError
    else if not (is_activation_error reports.activate_error) then Some faults.ActivateError
    else if not (is_syntax_error reports.syntax_error) then Some faults.SyntaxError
    else if not (is_place_of reports.syntax_error reports.syntax_error_position) then Some faults.Position
    else None
