-- The state of a sign, and how it starts (the values at the start are this profile's).
use Rattle.std.specs.Prelude.{ℕ, Bool, true, List}
use Rattle.dms_face.specs.Face.{FaceModel}
use Rattle.dms_table.specs.Rows.{TableModel}
use Rattle.dms_codes.specs.declared.mode.Mode.TheVariants.{PowerRecovery, CommunicationsLoss, PowerLoss, EndDuration}
use Rattle.dms_codes.specs.Mode.{mode_number}
use Rattle.dms_table.specs.Activation.{ShownModel, blank_shown}
use Rattle.dms_sign_access.specs.declared.reports.Reports.{Reports}
use Rattle.dms_sign_access.specs.declared.settings.SignSettings.{SignSettings}
use Rattle.dms_sign_access.specs.Settings.{first_settings}
use Rattle.dms_sign_access.specs.Reports.{first_reports}

-- ---- states

-- what a sign is made with, beside its table: the community that may write may read too (RFC 1157, 3.2.5)
pub record ConfigModel : Type 0 where
  pub face : FaceModel
  pub reader : List ℕ
  pub writer : List ℕ

pub record SignState : Type 0 where
  pub config : ConfigModel
  -- its rows, what the sign has, and the order of the octets of its checksums
  pub table : TableModel
  -- the values of the objects that can be set, but for those of the message table
  pub settings : SignSettings
  -- the seconds since a datagram was answered
  pub silent_seconds : ℕ
  pub shown : ShownModel
  -- what was shown when the power was lost
  pub shown_at_power_loss : ShownModel
  pub reports : Reports
  pub powered : Bool

-- ---- modes: what put a message up, beside a SET (NTCIP 1203, dmsMsgSourceMode)

abbrev pub power_recovery_mode : ℕ
power_recovery_mode = mode_number PowerRecovery

abbrev pub communications_loss_mode : ℕ
communications_loss_mode = mode_number CommunicationsLoss

abbrev pub power_loss_mode : ℕ
power_loss_mode = mode_number PowerLoss

abbrev pub end_duration_mode : ℕ
end_duration_mode = mode_number EndDuration

-- ---- the start

-- A sign as it is made shows the blank message and has power.
abbrev pub start : ConfigModel → TableModel → SignState
start config table = record {
  config = config;
  table = table;
  settings = first_settings config.face.defaults;
  silent_seconds = 0;
  shown = blank_shown config.face.defaults power_recovery_mode;
  shown_at_power_loss = blank_shown config.face.defaults power_recovery_mode;
  reports = first_reports;
  powered = true;
}
