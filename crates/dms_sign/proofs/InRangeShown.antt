-- What a code puts up is in range, and so is what is reported of a code that is refused.
use Rattle.std.proofs.Common.{ℕ, zero, suc, ◌*◌, ◌^◌, ◌<◌, ◌≤◌, ◌==◌, Bool, cond, List, [], ◌∷◌, get_or, Option, Some, None, Result, Ok, Err, refl, arith}
use Rattle.std.specs.Prelude.{option_map}
use Rattle.std.specs.Option.{IfSome}
use Rattle.std.specs.Int.Digits.{AllBelowBase}
use Rattle.dms_face.specs.declared.defaults.Defaults.{Defaults}
use Rattle.dms_face.specs.declared.multi_fault.MultiFault.{MultiFault}
use Rattle.dms_face.specs.Face.{FaceModel}
use Rattle.dms_face.specs.Fit.{fault_of}
use Rattle.dms_face.specs.Layout.{under}
use Rattle.dms_face.proofs.Lists.{if_either}
use Rattle.dms_codes.specs.declared.codes.Order.{Order}
use Rattle.dms_codes.specs.declared.codes.MessageId.{MessageId}
use Rattle.dms_codes.specs.declared.codes.Activation.{Activation}
use Rattle.dms_table.specs.declared.activation.Cause.{Cause}
use Rattle.dms_table.specs.declared.activation.Cause.TheVariants as causes
use Rattle.dms_table.specs.Rows.{TableModel, RowReading}
use Rattle.dms_codes.specs.Memory.{current_buffer}
use Rattle.dms_codes.specs.Limits.{longest_text}
use Rattle.dms_codes.specs.Codes.{number_at, id_of, activation_of, IsMessageId}
use Rattle.dms_codes.specs.Codes.{row_id}
use Rattle.dms_table.specs.Activation.{ShownModel, is_memory, named, text_error, activation_error, cause_number, seconds_of, put_up, put_up_row, shown_by, row_refusal, unless_refused, decided}
use Rattle.dms_codes.specs.declared.mode.Mode.{Mode}
use Rattle.dms_codes.specs.Mode.{mode_number}
use Rattle.dms_table.specs.Activation.{blank_shown}
use Rattle.dms_sign_access.specs.declared.reports.Reports.{Reports}
use Rattle.dms_sign.specs.State.{SignState}
use Rattle.dms_sign_access.specs.Reports.{with_cause, refused_reports}
use Rattle.dms_sign.specs.OwnCodes.{showing, own_activation, put_up_as_decided, staying, put_up_code}
use Rattle.dms_sign_access.specs.Reports.{IsCauseInRange}
use Rattle.dms_sign_access.specs.Ranges.{AreDefaultsInRange}
use Rattle.dms_sign.specs.InRange.{AreOctets, IsTableInRange, IsTimeInRange, IsShownInRange, AreReportsInRange, IsSignInRange}
use Rattle.dms_sign.proofs.InRangeLists.{either, if_mapped}
use Rattle.dms_sign.proofs.InRangeValues.{IsReadingInRange, in_order_small, message_in_range}
use Rattle.dms_sign.proofs.InRangeFaults.{fault_placed}

-- ---- parts of a state

pub showing_in_range : (s : SignState) (shown : ShownModel) → IsSignInRange s → IsShownInRange shown → IsSignInRange (showing s shown)
showing_in_range s shown is new = grind arith

pub telling_in_range : (s : SignState) (reports : Reports) → IsSignInRange s → AreReportsInRange reports
    → IsSignInRange (record s { reports = reports })
telling_in_range s reports is new = grind arith

pub with_table_in_range : (s : SignState) (table : TableModel) → IsSignInRange s → IsTableInRange table → IsSignInRange (record s { table = table })
with_table_in_range s table is new = grind arith

pub blank_in_range : (defaults : Defaults) (mode : ℕ) → AreDefaultsInRange defaults → mode ≤ 255 → IsShownInRange (blank_shown defaults mode)
blank_in_range defaults mode are small = record {
  row = record {
    text = record { size = omega arith; below = tt };
    owner = record { size = omega arith; below = tt };
    beacon = omega arith;
    pixel = omega arith;
    least = omega arith;
    priority = omega arith;
  };
  source = record { memory = omega arith; number = omega arith; crc = omega arith };
  mode = small;
  address = record { size = refl; below = (omega arith, (omega arith, (omega arith, (omega arith, tt)))) };
  remaining = tt;
  defaults = are;
}

-- ---- codes as they are read

pub octet_below : (octets : List ℕ) (i : ℕ) → AllBelowBase 256 octets → get_or octets i 0 < 256
octet_below [] i below = omega arith
octet_below (octet ∷ octets) zero below = below.0
octet_below (octet ∷ octets) (suc i) below = octet_below octets i below.1

number_at_small : (octets : List ℕ) (place : ℕ) → AllBelowBase 256 octets → number_at octets place < 2 ^ 16
number_at_small octets place below = grind (arith, octet_below)

pub id_is : (order : Order) (octets : List ℕ) → AllBelowBase 256 octets → IsMessageId (id_of order octets)
id_is order octets below = grind (arith, octet_below, number_at_small, in_order_small)

-- a code that can be decided on
pub record IsCodeInRange (code : Activation) : Type 0 where
  pub minutes : code.minutes ≤ 65535
  pub id : IsMessageId code.id
  pub address : AreOctets 4 code.address

pub activation_is : (order : Order) (octets : List ℕ) → AllBelowBase 256 octets → IsCodeInRange (activation_of order octets)
activation_is order octets below = grind (arith, number_at_small, octet_below, in_order_small)

pub own_is : (id : MessageId) → IsMessageId id → IsCodeInRange (own_activation id)
own_is id is = grind arith

-- ---- decisions

abbrev pub IsDecisionInRange : Result ShownModel Cause → Type 0
IsDecisionInRange (Ok shown) = IsShownInRange shown
IsDecisionInRange (Err cause) = IsCauseInRange cause

text_error_in_range : (face : FaceModel) (id : MessageId) (message : RowReading) → IfSome (text_error face id message) IsCauseInRange
text_error_in_range face id message =
    if_either IsCauseInRange (id.memory == current_buffer) None (option_map causes.Syntax (fault_of face message.row.text)) tt
    (if_mapped (λ (fault : MultiFault). fault.place ≤ longest_text) IsCauseInRange causes.Syntax (fault_of face message.row.text) (λ fault h. h)
    (fault_placed face message.row.text))

error_in_range : (face : FaceModel) (shown : ShownModel) (code : Activation) (message : RowReading)
    → IfSome (activation_error face shown code message) IsCauseInRange
error_in_range face shown code message = grind (arith, if_either, text_error_in_range)

seconds_if : (b : Bool) (minutes : ℕ) → minutes ≤ 65535 → IsTimeInRange (cond b None (Some (minutes * 60)))
seconds_if b minutes few = grind arith

pub seconds_in_range : (minutes : ℕ) → minutes ≤ 65535 → IsTimeInRange (seconds_of minutes)
seconds_in_range minutes few = seconds_if (minutes == 65535) minutes few

put_up_in_range : (defaults : Defaults) (shown : ShownModel) (code : Activation) (message : RowReading) → AreDefaultsInRange defaults
    → IsShownInRange shown
    → IsCodeInRange code → IsReadingInRange message → IsShownInRange (put_up defaults shown code message)
put_up_in_range defaults shown code message are is coded read = grind arith

unless_in_range : (shown : ShownModel) (o : Option Cause) → IsShownInRange shown → IfSome o IsCauseInRange
    → IsDecisionInRange (unless_refused shown o)
unless_in_range shown o is cause = grind arith

on_in_range : (face : FaceModel) (defaults : Defaults) (shown : ShownModel) (code : Activation) (o : Option RowReading) → AreDefaultsInRange defaults
    → IsShownInRange shown → IsCodeInRange code → IfSome o IsReadingInRange → IsDecisionInRange (unless_refused (put_up_row defaults shown code o) (row_refusal (under face defaults) shown code o))
on_in_range face defaults shown code o are is coded read = grind (arith, unless_in_range, put_up_in_range, error_in_range)

pub decided_in_range : (face : FaceModel) (defaults : Defaults) (table : TableModel) (shown : ShownModel) (code : Activation)
    → AreDefaultsInRange defaults
    → IsTableInRange table → IsShownInRange shown → IsCodeInRange code → IsDecisionInRange (decided face defaults table shown code)
decided_in_range face defaults table shown code are rows is coded =
    either (λ refused. IsDecisionInRange (unless_refused (shown_by defaults table shown code) refused)) (is_memory code.id.memory)
    (row_refusal (under face defaults) shown code (named table shown code.id)) (Some causes.MemoryType)
    (on_in_range face defaults shown code (named table shown code.id) are is coded (message_in_range table shown (row_id code.id) rows is)) tt

-- ---- codes that are refused

cause_in_range : (reports : Reports) (cause : Cause) → AreReportsInRange reports → IsCauseInRange cause
    → AreReportsInRange (with_cause reports cause)
cause_in_range reports cause are is = grind arith

cause_small : (cause : Cause) → cause_number cause ≤ 255
cause_small cause = grind arith

pub refused_in_range : (reports : Reports) (cause : Cause) (code : List ℕ) → AreReportsInRange reports → IsCauseInRange cause → AreOctets 12 code
    → AreReportsInRange (refused_reports reports cause code)
refused_in_range reports cause code are is octets =
    let new = cause_in_range reports cause are is in
    record {
      validate_error = new.validate_error;
      activate_error = cause_small cause;
      syntax_error = new.syntax_error;
      syntax_error_position = new.syntax_error_position;
      accepted_code = new.accepted_code;
      failed_code = octets;
    }

-- ---- codes of the sign's own

pub mode_in_range : (mode : Mode) → mode_number mode ≤ 255
mode_in_range mode = grind arith

pub with_mode : (shown : ShownModel) (mode : ℕ) → IsShownInRange shown → mode ≤ 255 → IsShownInRange (record shown { mode = mode })
with_mode shown mode is small = grind arith

pub with_time : (shown : ShownModel) (remaining : Option ℕ) → IsShownInRange shown → IsTimeInRange remaining
    → IsShownInRange (record shown { remaining = remaining })
with_time shown remaining is time = grind arith

as_decided_in_range : (s : SignState) (id : MessageId) (mode : ℕ) (r : Result ShownModel Cause) → IsSignInRange s → IsMessageId id → mode ≤ 255
    → IsDecisionInRange r
    → IsSignInRange (put_up_as_decided s id mode r)
as_decided_in_range s id mode r is known small decision = grind arith

staying_in_range : (s : SignState) (mode : ℕ) → IsSignInRange s → mode ≤ 255 → IsSignInRange (staying s mode)
staying_in_range s mode is small = grind arith

pub code_in_range : (s : SignState) (octets : List ℕ) (mode : ℕ) → IsSignInRange s → AllBelowBase 256 octets → mode ≤ 255
    → IsSignInRange (put_up_code s octets mode)
unfolding put_up_code
code_in_range s octets mode is below small =
    let id = id_of s.table.order octets in
    let known : IsMessageId id = id_is s.table.order octets below in
    either IsSignInRange (id.memory == current_buffer) (staying s mode) _ (staying_in_range s mode is small)
    (as_decided_in_range s id mode (decided s.config.face s.settings.defaults s.table s.shown (own_activation id)) is known small
    (decided_in_range s.config.face s.settings.defaults s.table s.shown (own_activation id) is.settings.defaults is.table is.shown (own_is id known)))
