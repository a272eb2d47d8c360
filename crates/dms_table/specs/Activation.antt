-- What puts a message up, and what keeps it from being shown (NTCIP 1203, dmsActivateMessage and dmsActivateMsgError).
use Rattle.std.specs.Prelude.{ℕ, ◌+◌, ◌*◌, ◌/◌, ◌==◌, ◌||◌, Bool, not, if◌then◌else◌, List, [], ◌∷◌}
use Rattle.std.specs.Prelude.{Option, Some, None, Result, Ok, Err, option_map, nat_lt}
use Rattle.std.specs.Option.{is_some}
use Rattle.dms_face.specs.declared.defaults.Defaults.{Defaults}
use Rattle.dms_face.specs.Face.{FaceModel}
use Rattle.dms_face.specs.Layout.{under}
use Rattle.dms_face.specs.Fit.{fault_of}
use Rattle.dms_codes.specs.declared.status.Status.TheVariants.{Valid}
use Rattle.dms_codes.specs.declared.codes.MessageId.{MessageId}
use Rattle.dms_codes.specs.declared.codes.Activation.{Activation}
use Rattle.dms_codes.specs.declared.row_id.RowId.{RowId}
use Rattle.dms_codes.specs.declared.mode.Mode.TheVariants.{Central}
use Rattle.dms_codes.specs.Codes.{row_id}
use Rattle.dms_codes.specs.Mode.{mode_number}
use Rattle.dms_table.specs.declared.activation.Cause.{Cause}
use Rattle.dms_table.specs.declared.activation.Cause.TheVariants as causes
use Rattle.dms_codes.specs.Status.{is_valid}
use Rattle.dms_table.specs.Rows.{RowModel, TableModel, RowReading, row_read, row_checksum}
use Rattle.dms_codes.specs.Memory.{memory_of, current_buffer, blank_memory}

-- What is shown: a copy of its row, the code's name of it, how it came up and by whom, the seconds that are left or no
-- end, and a copy of the defaults.
pub record ShownModel : Type 0 where
  pub text : List ℕ
  pub owner : List ℕ
  pub beacon : ℕ
  pub pixel : ℕ
  pub priority : ℕ
  pub source : MessageId
  pub mode : ℕ
  pub address : List ℕ
  pub remaining : Option ℕ
  pub defaults : Defaults

-- ---- the blank message

-- the address of nobody, 0.0.0.0
abbrev pub no_address : List ℕ
no_address = 0 ∷ 0 ∷ 0 ∷ 0 ∷ []

-- blank message 1
abbrev pub blank_id : MessageId
blank_id = record { memory = blank_memory; number = 1; crc = 0 }

-- the octets of its code, in either order
abbrev pub blank_octets : List ℕ
blank_octets = 7 ∷ 0 ∷ 1 ∷ 0 ∷ 0 ∷ []

-- blank message 1, activated by nobody under these defaults, without an end
abbrev pub blank_shown : Defaults → ℕ → ShownModel
blank_shown defaults mode = record {
  text = [];
  owner = [];
  beacon = 0;
  pixel = 0;
  priority = 1;
  source = blank_id;
  mode = mode;
  address = no_address;
  remaining = None;
  defaults = defaults;
}

-- ---- what a code names

-- what is shown, as a row
abbrev pub shown_row : ShownModel → RowModel
shown_row shown = record {
  text = shown.text;
  owner = shown.owner;
  beacon = shown.beacon;
  pixel = shown.pixel;
  priority = shown.priority;
  status = Valid;
}

-- its checksum reads 0 while it is a blank message
abbrev pub shown_reading : ShownModel → RowReading
shown_reading shown = record {
  row = shown_row shown;
  checksum = if shown.source.memory == blank_memory then 0 else row_checksum (shown_row shown);
}

abbrev pub is_memory : ℕ → Bool
is_memory memory = is_some (memory_of memory)

-- what is read of a row; the only number of the current buffer is 1
abbrev pub message_at : TableModel → ShownModel → RowId → Option RowReading
message_at table shown row =
    if row.memory == current_buffer then (if row.number == 1 then Some (shown_reading shown) else None)
    else row_read table row

-- the row that a code names
abbrev pub named : TableModel → ShownModel → MessageId → Option RowReading
named table shown id = message_at table shown (row_id id)

-- ---- the causes, in their order

-- the checksum of a blank message is not compared
abbrev pub has_checksum : MessageId → RowReading → Bool
has_checksum id message = id.memory == blank_memory || id.crc == message.checksum

-- What is shown stays, whatever the defaults are now.
abbrev pub text_error : FaceModel → MessageId → RowReading → Option Cause
text_error face id message =
    if id.memory == current_buffer then None else option_map causes.Syntax (fault_of face message.row.text)

-- Why a code whose row is there is refused: the first of the row's status, its checksum, the code's priority, the row's
-- text that is wrong; none, if nothing is.
abbrev pub activation_error : FaceModel → ShownModel → Activation → RowReading → Option Cause
activation_error face shown code message =
    if not (is_valid message.row.status) then Some causes.Status
    else if not (has_checksum code.id message) then Some causes.Checksum
    else if nat_lt code.priority shown.priority then Some causes.Priority
    else text_error face code.id message

abbrev pub row_refusal : FaceModel → ShownModel → Activation → Option RowReading → Option Cause
row_refusal face shown code None = Some causes.Number
row_refusal face shown code (Some message) = activation_error face shown code message

-- Why a code is refused: its type of memory, then its number, then its row may be wrong; none, if nothing is.
abbrev pub refusal : FaceModel → Defaults → TableModel → ShownModel → Activation → Option Cause
refusal face defaults table shown code =
    if is_memory code.id.memory then row_refusal (under face defaults) shown code (named table shown code.id)
    else Some causes.MemoryType

abbrev pub cause_number : Cause → ℕ
cause_number causes.Priority = 3
cause_number causes.Status = 4
cause_number causes.MemoryType = 5
cause_number causes.Number = 6
cause_number causes.Checksum = 7
cause_number (causes.Syntax fault) = 8

-- ---- what is shown then

-- the seconds of a number of minutes; 65535 is without end
abbrev pub seconds_of : ℕ → Option ℕ
seconds_of minutes = if minutes == 65535 then None else Some (minutes * 60)

-- seconds as minutes, rounded up; 65535 is without end (this profile)
abbrev pub minutes_left : Option ℕ → ℕ
minutes_left None = 65535
minutes_left (Some seconds) = (seconds + 59) / 60

-- A code of the current buffer keeps the source and the defaults of what is shown.
abbrev pub put_up : Defaults → ShownModel → Activation → RowReading → ShownModel
put_up defaults shown code message = record {
  text = message.row.text;
  owner = message.row.owner;
  beacon = message.row.beacon;
  pixel = message.row.pixel;
  priority = message.row.priority;
  source = if code.id.memory == current_buffer then shown.source else code.id;
  mode = mode_number Central;
  address = code.address;
  remaining = seconds_of code.minutes;
  defaults = if code.id.memory == current_buffer then shown.defaults else defaults;
}

abbrev pub put_up_row : Defaults → ShownModel → Activation → Option RowReading → ShownModel
put_up_row defaults shown code None = shown
put_up_row defaults shown code (Some message) = put_up defaults shown code message

-- what is shown once the message that a code names is up; where it names none, what is shown stays
abbrev pub shown_by : Defaults → TableModel → ShownModel → Activation → ShownModel
shown_by defaults table shown code = put_up_row defaults shown code (named table shown code.id)

abbrev pub unless_refused : {A : Type 0} → A → Option Cause → Result A Cause
unless_refused value None = Ok value
unless_refused value (Some cause) = Err cause

-- the decision on a code: it puts its message up, unless it is refused
abbrev pub decided : FaceModel → Defaults → TableModel → ShownModel → Activation → Result ShownModel Cause
decided face defaults table shown code =
    unless_refused (shown_by defaults table shown code) (refusal face defaults table shown code)
