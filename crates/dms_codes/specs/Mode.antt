-- What puts a message up (NTCIP 1203, dmsMsgSourceMode).
use Rattle.std.specs.Prelude.{ℕ}
use Rattle.dms_codes.specs.declared.mode.Mode.{Mode}
use Rattle.dms_codes.specs.declared.mode.Mode.TheVariants.{Central, PowerRecovery, CommunicationsLoss, PowerLoss}
use Rattle.dms_codes.specs.declared.mode.Mode.TheVariants.{EndDuration}

abbrev pub mode_number : Mode → ℕ
mode_number Central = 8
mode_number PowerRecovery = 10
mode_number CommunicationsLoss = 12
mode_number PowerLoss = 13
mode_number EndDuration = 14
