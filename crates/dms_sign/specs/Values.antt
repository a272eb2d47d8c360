-- What the objects of a sign read (NTCIP 1203, each by its name).
use Rattle.std.specs.Prelude.{ℕ, ◌*◌, List, Option, Some, option_map, option_and_then}
use Rattle.dms_wire.specs.Message.{ObjectValue, octet_string, ip_address, VarBind}
use Rattle.dms_codes.specs.Codes.{octets_of_id}
use Rattle.dms_table.specs.Rows.{TableModel, valid_count, unused_count, row_count}
use Rattle.dms_codes.specs.Memory.{permanent_memory, changeable_memory, volatile_memory}
use Rattle.dms_codes.specs.Limits.{longest_text}
use Rattle.dms_table.specs.Activation.{message_at, minutes_left}
use Rattle.dms_mib.specs.declared.scalar.Scalar.{Scalar}
use Rattle.dms_mib.specs.declared.scalar.Scalar.TheVariants as scalars
use Rattle.dms_mib.specs.declared.scalar.Scalar.TheVariants.{SignHeightPixels, SignWidthPixels}
use Rattle.dms_mib.specs.declared.scalar.Scalar.TheVariants.{DefaultBackgroundColor, DefaultForegroundColor}
use Rattle.dms_mib.specs.declared.scalar.Scalar.TheVariants.{DefaultFlashOn, DefaultFlashOff, DefaultFont}
use Rattle.dms_mib.specs.declared.scalar.Scalar.TheVariants.{DefaultJustificationLine, DefaultJustificationPage}
use Rattle.dms_mib.specs.declared.scalar.Scalar.TheVariants.{DefaultPageOnTime, DefaultPageOffTime, ColorScheme}
use Rattle.dms_mib.specs.declared.scalar.Scalar.TheVariants.{NumPermanentMsg, NumChangeableMsg, MaxChangeableMsg}
use Rattle.dms_mib.specs.declared.scalar.Scalar.TheVariants.{FreeChangeableMemory, NumVolatileMsg, MaxVolatileMsg}
use Rattle.dms_mib.specs.declared.scalar.Scalar.TheVariants.{FreeVolatileMemory, ValidateMessageError}
use Rattle.dms_mib.specs.declared.scalar.Scalar.TheVariants.{ActivateMessage, MessageTimeRemaining}
use Rattle.dms_mib.specs.declared.scalar.Scalar.TheVariants.{MsgTableSource, MsgRequesterId, MsgSourceMode}
use Rattle.dms_mib.specs.declared.scalar.Scalar.TheVariants.{ShortPowerRecoveryMessage, LongPowerRecoveryMessage}
use Rattle.dms_mib.specs.declared.scalar.Scalar.TheVariants.{CommunicationsLossMessage, PowerLossMessage}
use Rattle.dms_mib.specs.declared.scalar.Scalar.TheVariants.{EndDurationMessage}
use Rattle.dms_mib.specs.declared.scalar.Scalar.TheVariants.{ActivateMsgError, MultiSyntaxError}
use Rattle.dms_mib.specs.declared.scalar.Scalar.TheVariants.{MultiSyntaxErrorPosition, ActivateErrorMsgCode}
use Rattle.dms_mib.specs.declared.instance.Instance.{Instance}
use Rattle.dms_mib.specs.declared.instance.Instance.TheVariants as kinds
use Rattle.dms_mib.specs.Names.{name_of}
use Rattle.dms_mib_instances.specs.Objects.{instance_named, next_instance}
use Rattle.dms_sign_access.specs.Cells.{number_value, cell_value}
use Rattle.dms_sign.specs.State.{SignState}

-- ---- objects with one instance

-- the octets that are free in a type of memory: each row that is not used has room for the longest text (this profile)
abbrev pub free_octets : TableModel → ℕ → ℕ
free_octets table memory = longest_text * unused_count table memory

unfoldable pub scalar_value : SignState → Scalar → ObjectValue
scalar_value s SignHeightPixels = number_value s.config.face.height
scalar_value s SignWidthPixels = number_value s.config.face.width
scalar_value s DefaultBackgroundColor = number_value s.settings.defaults.background
scalar_value s DefaultForegroundColor = number_value s.settings.defaults.foreground
scalar_value s DefaultFlashOn = number_value s.settings.defaults.flash_on
scalar_value s DefaultFlashOff = number_value s.settings.defaults.flash_off
scalar_value s DefaultFont = number_value s.settings.defaults.font
scalar_value s DefaultJustificationLine = number_value s.settings.defaults.line
scalar_value s DefaultJustificationPage = number_value s.settings.defaults.page
scalar_value s DefaultPageOnTime = number_value s.settings.defaults.on
scalar_value s DefaultPageOffTime = number_value s.settings.defaults.off
-- colorClassic
scalar_value s ColorScheme = number_value 3
scalar_value s NumPermanentMsg = number_value (row_count s.table permanent_memory)
-- messages that are valid (this profile)
scalar_value s NumChangeableMsg = number_value (valid_count s.table changeable_memory)
scalar_value s MaxChangeableMsg = number_value (row_count s.table changeable_memory)
scalar_value s FreeChangeableMemory = number_value (free_octets s.table changeable_memory)
scalar_value s NumVolatileMsg = number_value (valid_count s.table volatile_memory)
scalar_value s MaxVolatileMsg = number_value (row_count s.table volatile_memory)
scalar_value s FreeVolatileMemory = number_value (free_octets s.table volatile_memory)
scalar_value s ValidateMessageError = number_value s.reports.validate_error
scalar_value s ActivateMessage = octet_string s.reports.accepted_code
scalar_value s MessageTimeRemaining = number_value (minutes_left s.shown.remaining)
scalar_value s MsgTableSource = octet_string (octets_of_id s.table.order s.shown.source)
scalar_value s MsgRequesterId = ip_address s.shown.address
scalar_value s MsgSourceMode = number_value s.shown.mode
scalar_value s ShortPowerRecoveryMessage = octet_string s.settings.fallbacks.short_power_recovery
scalar_value s LongPowerRecoveryMessage = octet_string s.settings.fallbacks.long_power_recovery
scalar_value s CommunicationsLossMessage = octet_string s.settings.fallbacks.communications_loss
scalar_value s PowerLossMessage = octet_string s.settings.fallbacks.power_loss
scalar_value s EndDurationMessage = octet_string s.settings.fallbacks.end_duration
-- made by tools/objects.py --code
scalar_value s scalars.ShortPowerLossTime = number_value s.settings.short_power_loss_time
scalar_value s scalars.TimeCommLoss = number_value s.settings.time_comm_loss
-- the end of what is made
scalar_value s ActivateMsgError = number_value s.reports.activate_error
scalar_value s MultiSyntaxError = number_value s.reports.syntax_error
scalar_value s MultiSyntaxErrorPosition = number_value s.reports.syntax_error_position
scalar_value s ActivateErrorMsgCode = octet_string s.reports.failed_code

-- ---- names

-- what an instance reads; the row of the current buffer is what is shown
unfoldable pub value_at : SignState → Instance → Option ObjectValue
value_at s (kinds.Scalar object) = Some (scalar_value s object)
value_at s (kinds.Cell column id) = option_map (cell_value s.table.order column id) (message_at s.table s.shown id)

-- what a name reads, where it is that of an instance
unfoldable pub value_of : SignState → List ℕ → Option ObjectValue
value_of s name = option_and_then (value_at s) (instance_named s.table name)

abbrev pub bound : Instance → ObjectValue → VarBind
bound i value = record { name = name_of i; value = value }

-- an instance with what it reads
abbrev pub binding_at : SignState → Instance → Option VarBind
binding_at s i = option_map (bound i) (value_at s i)

-- the first instance after a name, with what it reads (RFC 1157, 4.1.3)
unfoldable pub value_after : SignState → List ℕ → Option VarBind
value_after s name = option_and_then (binding_at s) (next_instance s.table name)
