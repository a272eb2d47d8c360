-- The ranges of what a sign holds. They hold of a sign as it is made and after every event, so that each value which
-- its objects read can be said in a message (this profile).
use Rattle.std.specs.Prelude.{◌≡◌, ℕ, ◌*◌, ◌≤◌, List, length}
use Rattle.std.specs.Prelude.{Option, Some, None, ⊤, IsTrue, All, replicate}
use Rattle.std.specs.List.{AllByRecursion}
use Rattle.std.specs.Int.Digits.{AllBelowBase}
use Rattle.dms_wire.specs.declared.message.Kind.TheVariants.{Response}
use Rattle.dms_wire.specs.Message.{VarBind, SnmpMessage}
use Rattle.dms_wire_ber.specs.Limits.{longest_datagram}
use Rattle.dms_wire_ber.specs.ObjectIdentifier.{IsNameInLimits}
use Rattle.dms_wire.specs.Limits.{IsValueInLimits}
use Rattle.dms_wire.specs.MessageOf.{message_of}
use Rattle.dms_codes.specs.Codes.{IsMessageId}
use Rattle.dms_table.specs.Rows.{RowModel, TableModel, unused}
use Rattle.dms_codes.specs.Limits.{longest_text, longest_owner, widest_matrix, highest_matrix}
use Rattle.dms_codes.specs.Limits.{most_permanent_rows, most_changeable_rows, most_volatile_rows}
use Rattle.dms_table.specs.Stock.{has_ranges}
use Rattle.dms_table.specs.Activation.{ShownModel, shown_row}
use Rattle.dms_sign_access.specs.declared.reports.Reports.{Reports}
use Rattle.dms_sign_access.specs.declared.settings.Fallbacks.{Fallbacks}
use Rattle.dms_sign_access.specs.declared.settings.SignSettings.{SignSettings}
use Rattle.dms_sign_access.specs.Ranges.{AreDefaultsInRange}
use Rattle.dms_sign.specs.State.{ConfigModel, SignState}
use Rattle.dms_sign.specs.Requests.{answer_of_any_size}
use Rattle.dms_sign.specs.Reply.{response_sent}

-- ---- parts

-- so many octets
pub record AreOctets (count : ℕ) (octets : List ℕ) : Type 0 where
  pub size : length octets ≡ count
  pub below : AllBelowBase 256 octets

-- at most so many octets
pub record AreOctetsUpTo (most : ℕ) (octets : List ℕ) : Type 0 where
  pub size : length octets ≤ most
  pub below : AllBelowBase 256 octets

-- the size of the matrix, and communities that are octets
pub record IsConfigInRange (config : ConfigModel) : Type 0 where
  pub width : config.face.width ≤ widest_matrix
  pub height : config.face.height ≤ highest_matrix
  pub reader : AllBelowBase 256 config.reader
  pub writer : AllBelowBase 256 config.writer

-- a row of dmsMessageTable
pub record IsRowInRange (row : RowModel) : Type 0 where
  pub text : AreOctetsUpTo longest_text row.text
  pub owner : AreOctetsUpTo longest_owner row.owner
  pub beacon : row.beacon ≤ 1
  pub pixel : row.pixel ≤ 1
  pub least : 1 ≤ row.priority
  pub priority : row.priority ≤ 255

-- the rows, each in range
pub record IsTableInRange (table : TableModel) : Type 0 where
  pub permanent : AllByRecursion IsRowInRange table.permanent
  pub changeable : AllByRecursion IsRowInRange table.changeable
  pub volatile : AllByRecursion IsRowInRange table.volatile
  pub permanent_count : length table.permanent ≤ most_permanent_rows
  pub changeable_count : length table.changeable ≤ most_changeable_rows
  pub volatile_count : length table.volatile ≤ most_volatile_rows

-- each code is five octets (NTCIP 1203, MessageIDCode)
pub record AreFallbacksInRange (fallbacks : Fallbacks) : Type 0 where
  pub short_power_recovery : AreOctets 5 fallbacks.short_power_recovery
  pub long_power_recovery : AreOctets 5 fallbacks.long_power_recovery
  pub power_loss : AreOctets 5 fallbacks.power_loss
  pub end_duration : AreOctets 5 fallbacks.end_duration
  pub communications_loss : AreOctets 5 fallbacks.communications_loss

-- the most minutes that an object says
abbrev pub most_minutes : ℕ
most_minutes = 65535

-- made by tools/objects.py --code

-- the codes and the defaults are octets, the others numbers of 16 bits
pub record AreSettingsInRange (settings : SignSettings) : Type 0 where
  pub fallbacks : AreFallbacksInRange settings.fallbacks
  pub short_power_loss_time : settings.short_power_loss_time ≤ 65535
  pub time_comm_loss : settings.time_comm_loss ≤ 65535
  pub defaults : AreDefaultsInRange settings.defaults

-- the end of what is made

-- seconds that are at most the most minutes, or no end
abbrev pub IsTimeInRange : Option ℕ → Type 0
IsTimeInRange None = ⊤
IsTimeInRange (Some seconds) = seconds ≤ most_minutes * 60

-- what is shown: its row, its code, what put it up and who, and its defaults
pub record IsShownInRange (shown : ShownModel) : Type 0 where
  pub row : IsRowInRange (shown_row shown)
  pub source : IsMessageId shown.source
  pub mode : shown.mode ≤ 255
  pub address : AreOctets 4 shown.address
  pub remaining : IsTimeInRange shown.remaining
  pub defaults : AreDefaultsInRange shown.defaults

-- the errors are octets, a place lies in a text or at its end, and each code is twelve octets (NTCIP 1203,
-- MessageActivationCode)
pub record AreReportsInRange (reports : Reports) : Type 0 where
  pub validate_error : reports.validate_error ≤ 255
  pub activate_error : reports.activate_error ≤ 255
  pub syntax_error : reports.syntax_error ≤ 255
  pub syntax_error_position : reports.syntax_error_position ≤ longest_text
  pub accepted_code : AreOctets 12 reports.accepted_code
  pub failed_code : AreOctets 12 reports.failed_code

-- ---- signs

-- The silence is counted no further than to the longest time of it.
pub record IsSignInRange (s : SignState) : Type 0 where
  pub config : IsConfigInRange s.config
  pub table : IsTableInRange s.table
  pub settings : AreSettingsInRange s.settings
  pub silent_seconds : s.silent_seconds ≤ 60 * most_minutes
  pub shown : IsShownInRange s.shown
  pub shown_at_power_loss : IsShownInRange s.shown_at_power_loss
  pub reports : AreReportsInRange s.reports

-- ---- how a sign is made

-- the permanent rows, each with its ranges, and changeable and volatile rows that are not used
pub record IsStocked (table : TableModel) : Type 0 where
  pub permanent : All (λ (row : RowModel). IsTrue (has_ranges row)) table.permanent
  pub permanent_count : length table.permanent ≤ most_permanent_rows
  pub changeable : table.changeable ≡ replicate (length table.changeable) unused
  pub changeable_count : length table.changeable ≤ most_changeable_rows
  pub volatile : table.volatile ≡ replicate (length table.volatile) unused
  pub volatile_count : length table.volatile ≤ most_volatile_rows

-- the communities, the defaults, and the texts and owners of permanent rows are octets
pub record IsMadeOfOctets (config : ConfigModel) (table : TableModel) : Type 0 where
  pub reader : AllBelowBase 256 config.reader
  pub writer : AllBelowBase 256 config.writer
  pub defaults : AreDefaultsInRange config.face.defaults
  pub texts : All (λ (row : RowModel). AllBelowBase 256 row.text) table.permanent
  pub owners : All (λ (row : RowModel). AllBelowBase 256 row.owner) table.permanent

-- ---- replies

-- a binding that can be said in a message
pub record IsBindingInLimits (binding : VarBind) : Type 0 where
  pub name : IsNameInLimits binding.name
  pub value : IsValueInLimits binding.value

-- The reply fits a datagram, and its octets spell the Response that is sent to the request, which has the community and
-- the request-id of the request.
pub record IsSpelledReply (s : SignState) (datagram reply : List ℕ) : Type 0 where
  pub request : SnmpMessage
  pub asked : message_of datagram ≡ Some request
  pub response : SnmpMessage
  pub meant : response ≡ response_sent request (answer_of_any_size s request)
  pub kind : response.kind ≡ Response
  pub community : response.community ≡ request.community
  pub number : response.request ≡ request.request
  pub spelled : message_of reply ≡ Some response
  pub short : length reply ≤ longest_datagram
