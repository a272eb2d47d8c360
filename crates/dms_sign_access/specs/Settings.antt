-- The settings as a sign is made, and those that the writes of a SET leave (this profile).
use Rattle.std.specs.Prelude.{List}
use Rattle.dms_face.specs.declared.defaults.Defaults.{Defaults}
use Rattle.dms_mib.specs.declared.scalar.Scalar.TheVariants as scalars
use Rattle.dms_mib.specs.declared.scalar.Scalar.TheVariants.{ShortPowerRecoveryMessage, LongPowerRecoveryMessage}
use Rattle.dms_mib.specs.declared.scalar.Scalar.TheVariants.{PowerLossMessage, EndDurationMessage}
use Rattle.dms_mib.specs.declared.scalar.Scalar.TheVariants.{CommunicationsLossMessage}
use Rattle.dms_sign_access.specs.declared.settings.Fallbacks.{Fallbacks}
use Rattle.dms_sign_access.specs.declared.settings.SignSettings.{SignSettings}
use Rattle.dms_table.specs.Activation.{blank_octets}
use Rattle.dms_sign_access.specs.Access.{Write}
use Rattle.dms_sign_access.specs.Assignment.{given, number_for, code_for}

-- each code is that of blank message 1
abbrev pub first_fallbacks : Fallbacks
first_fallbacks = record {
  short_power_recovery = blank_octets;
  long_power_recovery = blank_octets;
  power_loss = blank_octets;
  end_duration = blank_octets;
  communications_loss = blank_octets;
}

-- the codes of the messages that a sign activates by itself, after these writes (NTCIP 1203, signControl)
abbrev pub codes_by : Fallbacks → List Write → Fallbacks
codes_by f writes = record {
  short_power_recovery = given (code_for ShortPowerRecoveryMessage) writes f.short_power_recovery;
  long_power_recovery = given (code_for LongPowerRecoveryMessage) writes f.long_power_recovery;
  power_loss = given (code_for PowerLossMessage) writes f.power_loss;
  end_duration = given (code_for EndDurationMessage) writes f.end_duration;
  communications_loss = given (code_for CommunicationsLossMessage) writes f.communications_loss;
}

-- made by tools/objects.py --code

-- the settings as a sign is made: the numbers are 0
abbrev pub first_settings : Defaults → SignSettings
first_settings defaults = record {
  fallbacks = first_fallbacks;
  short_power_loss_time = 0;
  time_comm_loss = 0;
  defaults = defaults;
}

-- the defaults after these writes (NTCIP 1203, multiCfg)
abbrev pub defaults_by : Defaults → List Write → Defaults
defaults_by d writes = record {
  background = given (number_for scalars.DefaultBackgroundColor) writes d.background;
  foreground = given (number_for scalars.DefaultForegroundColor) writes d.foreground;
  flash_on = given (number_for scalars.DefaultFlashOn) writes d.flash_on;
  flash_off = given (number_for scalars.DefaultFlashOff) writes d.flash_off;
  font = given (number_for scalars.DefaultFont) writes d.font;
  line = given (number_for scalars.DefaultJustificationLine) writes d.line;
  page = given (number_for scalars.DefaultJustificationPage) writes d.page;
  on = given (number_for scalars.DefaultPageOnTime) writes d.on;
  off = given (number_for scalars.DefaultPageOffTime) writes d.off;
}

-- the settings after these writes
unfoldable pub set_by : SignSettings → List Write → SignSettings
set_by s writes = record {
  fallbacks = codes_by s.fallbacks writes;
  short_power_loss_time = given (number_for scalars.ShortPowerLossTime) writes s.short_power_loss_time;
  time_comm_loss = given (number_for scalars.TimeCommLoss) writes s.time_comm_loss;
  defaults = defaults_by s.defaults writes;
}

-- the end of what is made
