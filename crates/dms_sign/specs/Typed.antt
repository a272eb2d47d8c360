-- What the types of the code's fields say of their ranges (this profile).
use Rattle.std.specs.Prelude.{◌≤◌}
use Rattle.std.specs.Int.Digits.{AllBelowBase}
use Rattle.dms_codes.specs.Codes.{IsMessageId}
use Rattle.dms_table.specs.Activation.{ShownModel}
use Rattle.dms_sign_access.specs.Ranges.{AreDefaultsInRange}
use Rattle.dms_sign_access.specs.declared.reports.Reports.{Reports}
use Rattle.dms_sign.specs.InRange.{AreOctets}

-- of what is shown
pub record IsTyped (shown : ShownModel) : Type 0 where
  pub text : AllBelowBase 256 shown.text
  pub owner : AllBelowBase 256 shown.owner
  pub priority : shown.priority ≤ 255
  pub source : IsMessageId shown.source
  pub mode : shown.mode ≤ 255
  pub address : AreOctets 4 shown.address
  pub defaults : AreDefaultsInRange shown.defaults

-- of what is reported
pub record AreTyped (reports : Reports) : Type 0 where
  pub validate_error : reports.validate_error ≤ 255
  pub activate_error : reports.activate_error ≤ 255
  pub syntax_error : reports.syntax_error ≤ 255
  pub accepted_code : AreOctets 12 reports.accepted_code
  pub failed_code : AreOctets 12 reports.failed_code
