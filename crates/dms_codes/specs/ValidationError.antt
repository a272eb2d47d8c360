-- What is wrong with a message (NTCIP 1203, dmsValidateMessageError).
use Rattle.std.specs.Prelude.{ℕ}
use Rattle.dms_codes.specs.declared.validation_error.ValidationError.{ValidationError}
use Rattle.dms_codes.specs.declared.validation_error.ValidationError.TheVariants as errors

abbrev pub validation_number : ValidationError → ℕ
validation_number errors.None = 2
validation_number errors.Beacons = 3
validation_number errors.PixelService = 4
validation_number errors.SyntaxMulti = 5
