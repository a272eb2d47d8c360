-- How it is said what is wrong with a state's text (this profile).
use Rattle.std.specs.Prelude.{ℕ, List, ◌++◌, codes, decimal}
use Rattle.dms_sign_state.specs.declared.field.SignStateField.{SignStateField}
use Rattle.dms_sign_state.specs.declared.field.SignStateField.TheVariants as fields
use Rattle.dms_sign_state.specs.declared.field.SignStateFault.{SignStateFault}
use Rattle.dms_sign_state.specs.declared.field.StateError.{StateError}
use Rattle.dms_sign_state.specs.declared.field.StateError.TheVariants as errors
use Rattle.dms_sign_state.specs.NumberSettings.{number_word}
use Rattle.dms_sign_state.specs.FieldFaults.{put_name, stored_name, most_rows}

abbrev pub field_text : SignStateField → List ℕ
field_text fields.Form = codes "state 1 sign"
field_text (fields.Row stored least) =
    stored_name stored ++ codes " and a row of a number from " ++ decimal least ++ codes " to "
    ++ decimal (most_rows stored)
field_text fields.Defaults = codes "defaults and nine numbers"
field_text fields.ShortPowerRecovery = codes "short-power-recovery and five octets"
field_text fields.LongPowerRecovery = codes "long-power-recovery and five octets"
field_text fields.PowerLoss = codes "power-loss and five octets"
field_text fields.EndDuration = codes "end-duration and five octets"
field_text fields.CommunicationsLoss = codes "communications-loss and five octets"
field_text (fields.Number number) = number_word number ++ codes " and a number to 65535"
field_text fields.Silent = codes "silent and a number to 4294967295"
field_text (fields.Message put) = put_name put ++ codes " and a message"
field_text (fields.Source put) = put_name put ++ codes "-source and five octets"
field_text (fields.Mode put) = put_name put ++ codes "-mode and a number to 255"
field_text (fields.Address put) = put_name put ++ codes "-address and an address"
field_text (fields.Remaining put) = put_name put ++ codes "-remaining and a number to 4294967295"
field_text (fields.Copied put) = put_name put ++ codes "-defaults and nine numbers"
field_text fields.ValidateError = codes "validate-error and a number to 255"
field_text fields.ActivateError = codes "activate-error and a number to 255"
field_text fields.SyntaxError = codes "syntax-error and a number to 255"
field_text fields.SyntaxErrorPosition = codes "syntax-error-position and a number to 65535"
field_text fields.AcceptedCode = codes "accepted-code and twelve octets"
field_text fields.FailedCode = codes "failed-code and twelve octets"
field_text fields.Powered = codes "powered and 0 or 1"
field_text fields.End = codes "end and nothing after it"

abbrev pub fault_text : SignStateFault → List ℕ
fault_text fault = codes "line " ++ decimal fault.line ++ codes ": " ++ field_text fault.wanted ++ codes " wanted"

abbrev pub error_text : StateError → List ℕ
error_text errors.Memory = codes "no memory"
error_text (errors.Fault fault) = fault_text fault
