-- What is put up, and what is reported, is what a saved state may say.
use Rattle.std.proofs.Common.{◌≡◌, ℕ, ◌*◌, ◌-◌, ◌≤◌, ◌==◌, ◌&&◌, ◌||◌, Bool, true, false, not, cond, List, Option, Some, None, Result, Ok, Err, refl, ap, sym, subst, ◌∙◌, arith}
use Rattle.std.specs.Prelude.{option_map, nat_le, ⊤}
use Rattle.std.specs.Option.{IfSome}
use Rattle.std.proofs.lemmas.Bool.{eq-eqb, eqb-false, leb-true, le-leb, or_right, and_parts, and_from}
use Rattle.std.proofs.lemmas.Option.{same_Some}
use Rattle.dms_codes.specs.declared.codes.MessageId.{MessageId}
use Rattle.dms_codes.specs.declared.codes.Activation.{Activation}
use Rattle.dms_codes.specs.declared.mode.Mode.TheVariants.{Central}
use Rattle.dms_codes.specs.declared.validation_error.ValidationError.TheVariants as errors
use Rattle.dms_codes.specs.Codes.{id_of}
use Rattle.dms_codes.specs.Limits.{longest_text}
use Rattle.dms_codes.specs.Memory.{current_buffer, blank_memory}
use Rattle.dms_codes.specs.Mode.{mode_number}
use Rattle.dms_face.specs.declared.defaults.Defaults.{Defaults}
use Rattle.dms_face.specs.declared.multi_fault.MultiFault.{MultiFault}
use Rattle.dms_face.specs.declared.multi_fault.MultiFaultCode.{MultiFaultCode}
use Rattle.dms_face.specs.Face.{FaceModel}
use Rattle.dms_face.specs.FaultCode.{number_of_code}
use Rattle.dms_face.specs.Fit.{fault_of}
use Rattle.dms_face.specs.Layout.{under}
use Rattle.dms_face.proofs.Lists.{if_either}
use Rattle.dms_table.specs.declared.activation.Cause.{Cause}
use Rattle.dms_table.specs.declared.activation.Cause.TheVariants as causes
use Rattle.dms_table.specs.declared.row.Services.{Services}
use Rattle.dms_table.specs.declared.validation.Verdict.{Verdict}
use Rattle.dms_table.specs.Rows.{RowModel, TableModel, RowReading, reading, blank_reading, blank, numbered, rows_of}
use Rattle.dms_table.specs.Activation.{ShownModel, shown_reading, is_memory, named, text_error, activation_error, row_refusal, seconds_of, put_up, put_up_row, shown_by, unless_refused, decided}
use Rattle.dms_table.specs.SavedShown.{is_mode, is_blank_by_its_source, is_blank_of, is_time}
use Rattle.dms_table.specs.Validation.{verdict_without_fault, text_verdict, verdict_of, settling_row, verdict}
use Rattle.dms_sign_access.specs.declared.reports.Reports.{Reports}
use Rattle.dms_sign_access.specs.Reports.{no_error, text_reports, settled_reports, refused_reports, is_validation_error, is_activation_error, is_text_error, is_syntax_error, is_place_of}
use Rattle.dms_sign.proofs.StepShown.{put_up_if}
use Rattle.dms_sign.specs.State.{SignState, power_loss_mode}
use Rattle.dms_sign.specs.OwnCodes.{own_activation, put_up_as_decided, staying, put_up_code}
use Rattle.dms_sign.proofs.InRangeLists.{either, if_mapped}
use Rattle.dms_sign_restored.proofs.ToldFaults.{IsTold, fault_told}

-- ---- a message by its source, where it is known whether a code is of the current buffer or of a blank message

abbrev pub IsBlankBySource : ShownModel → Type 0
IsBlankBySource shown = is_blank_by_its_source shown ≡ true

still_blank : (defaults : Defaults) (shown : ShownModel) (code : Activation) → IsBlankBySource shown → IsBlankBySource (put_up_if true defaults shown code (shown_reading shown))
still_blank defaults shown code is = is

empty_blank : (defaults : Defaults) (shown : ShownModel) (code : Activation) → IsBlankBySource (put_up_if false defaults shown code (blank_reading (blank code.id.number)))
empty_blank defaults shown code = or_right (not (code.id.memory == blank_memory)) _ (eq-eqb code.id.number code.id.number refl)

other_blank : (defaults : Defaults) (shown : ShownModel) (code : Activation) (message : RowReading) → (code.id.memory == blank_memory) ≡ false
    → IsBlankBySource (put_up_if false defaults shown code message)
other_blank defaults shown code message is =
    ap (λ b. not b || is_blank_of code.id.number (put_up_if false defaults shown code message)) is

named_blank : (current is_blank one numbers : Bool) (other : Option RowModel) (defaults : Defaults) (shown : ShownModel) (code : Activation) (message : RowReading)
    → (code.id.memory == blank_memory) ≡ is_blank → IsBlankBySource shown
    → cond current (cond one (Some (shown_reading shown)) None)
    (cond is_blank (option_map blank_reading (cond numbers (Some (blank code.id.number)) None)) (option_map reading other)) ≡ Some message
    → IsBlankBySource (put_up_if current defaults shown code message)
named_blank true is_blank true numbers other defaults shown code message memory is e =
    subst (λ message. IsBlankBySource (put_up_if true defaults shown code message)) (same_Some (shown_reading shown) message e) (still_blank defaults shown code is)
named_blank true is_blank false numbers other defaults shown code message memory is e = absurd (cc)
named_blank false true one true other defaults shown code message memory is e =
    subst (λ message. IsBlankBySource (put_up_if false defaults shown code message)) (same_Some (blank_reading (blank code.id.number)) message e)
    (empty_blank defaults shown code)
named_blank false true one false other defaults shown code message memory is e = absurd (cc)
named_blank false false one numbers other defaults shown code message memory is e = other_blank defaults shown code message memory

-- ---- decisions

-- a message that a code of so many minutes put up
pub record IsDecidedBy (minutes : ℕ) (shown : ShownModel) : Type 0 where
  pub by_source : IsBlankBySource shown
  pub mode : shown.mode ≡ mode_number Central
  pub remaining : shown.remaining ≡ seconds_of minutes

abbrev pub IsCauseTold : Cause → Type 0
IsCauseTold (causes.Syntax fault) = IsTold fault
IsCauseTold causes.MemoryType = ⊤
IsCauseTold causes.Number = ⊤
IsCauseTold causes.Status = ⊤
IsCauseTold causes.Checksum = ⊤
IsCauseTold causes.Priority = ⊤

abbrev pub IsDecision : ℕ → Result ShownModel Cause → Type 0
IsDecision minutes (Ok shown) = IsDecidedBy minutes shown
IsDecision minutes (Err cause) = IsCauseTold cause

text_error_told : (face : FaceModel) (id : MessageId) (message : RowReading) → IfSome (text_error face id message) IsCauseTold
text_error_told face id message =
    if_either IsCauseTold (id.memory == current_buffer) None (option_map causes.Syntax (fault_of face message.row.text)) tt
    (if_mapped IsTold IsCauseTold causes.Syntax (fault_of face message.row.text) (λ fault told. told) (fault_told face message.row.text))

error_told : (face : FaceModel) (shown : ShownModel) (code : Activation) (message : RowReading) → IfSome (activation_error face shown code message) IsCauseTold
error_told face shown code message = grind (arith, if_either, text_error_told)

unless_told : (minutes : ℕ) (shown : ShownModel) (o : Option Cause) → IsDecidedBy minutes shown → IfSome o IsCauseTold → IsDecision minutes (unless_refused shown o)
unless_told minutes shown None is told = is
unless_told minutes shown (Some cause) is told = told

on_told : (face : FaceModel) (defaults : Defaults) (shown : ShownModel) (code : Activation) (o : Option RowReading)
    → ((message : RowReading) → o ≡ Some message → IsBlankBySource (put_up defaults shown code message))
    → IsDecision code.minutes (unless_refused (put_up_row defaults shown code o) (row_refusal (under face defaults) shown code o))
on_told face defaults shown code None each = tt
on_told face defaults shown code (Some message) each =
    unless_told code.minutes (put_up defaults shown code message) (activation_error (under face defaults) shown code message)
    (record { by_source = each message refl; mode = refl; remaining = refl }) (error_told (under face defaults) shown code message)

pub decided_told : (face : FaceModel) (defaults : Defaults) (table : TableModel) (shown : ShownModel) (code : Activation) → IsBlankBySource shown
    → IsDecision code.minutes (decided face defaults table shown code)
decided_told face defaults table shown code is =
    either (λ refused. IsDecision code.minutes (unless_refused (shown_by defaults table shown code) refused)) (is_memory code.id.memory)
    (row_refusal (under face defaults) shown code (named table shown code.id)) (Some causes.MemoryType)
    (on_told face defaults shown code (named table shown code.id) (λ message e.
    named_blank (code.id.memory == current_buffer) (code.id.memory == blank_memory) (code.id.number == 1)
    (nat_le 1 code.id.number && nat_le code.id.number 255) (numbered (rows_of table code.id.memory) code.id.number) defaults shown code message refl is e)) tt

-- ---- reports

-- what is reported can be
pub record AreReported (reports : Reports) : Type 0 where
  pub validate : is_validation_error reports.validate_error ≡ true
  pub activate : is_activation_error reports.activate_error ≡ true
  pub syntax_told : is_syntax_error reports.syntax_error ≡ true
  pub place : is_place_of reports.syntax_error reports.syntax_error_position ≡ true

told_syntax : (fault : MultiFault) → IsTold fault → is_syntax_error (number_of_code fault.code) ≡ true
told_syntax fault told = or_right (number_of_code fault.code == no_error) (is_text_error (number_of_code fault.code)) told.code

is_no_error : (code : MultiFaultCode) → is_text_error (number_of_code code) ≡ true → (number_of_code code == no_error) ≡ false
is_no_error code told = grind arith

told_place : (fault : MultiFault) → IsTold fault → is_place_of (number_of_code fault.code) fault.place ≡ true
told_place fault told =
    ap (λ none. cond none (fault.place == 0) (nat_le fault.place longest_text)) (is_no_error fault.code told.code)
    ∙ le-leb fault.place longest_text told.place

pub refused_reported : (reports : Reports) (cause : Cause) (code : List ℕ) → AreReported reports → IsCauseTold cause → AreReported (refused_reports reports cause code)
refused_reported reports (causes.Syntax fault) code are told =
    record { validate = are.validate; activate = refl; syntax_told = told_syntax fault told; place = told_place fault told }
refused_reported reports causes.MemoryType code are told =
    record { validate = are.validate; activate = refl; syntax_told = are.syntax_told; place = are.place }
refused_reported reports causes.Number code are told =
    record { validate = are.validate; activate = refl; syntax_told = are.syntax_told; place = are.place }
refused_reported reports causes.Status code are told =
    record { validate = are.validate; activate = refl; syntax_told = are.syntax_told; place = are.place }
refused_reported reports causes.Checksum code are told =
    record { validate = are.validate; activate = refl; syntax_told = are.syntax_told; place = are.place }
refused_reported reports causes.Priority code are told =
    record { validate = are.validate; activate = refl; syntax_told = are.syntax_told; place = are.place }

-- a verdict that is reported
record IsVerdictTold (verdict : Verdict) : Type 0 where
  error : is_validation_error verdict.error ≡ true
  fault : IfSome verdict.fault IsTold

text_verdict_told : (o : Option MultiFault) → IfSome o IsTold → IsVerdictTold (text_verdict o)
text_verdict_told None told = record { error = refl; fault = tt }
text_verdict_told (Some fault) told = record { error = refl; fault = told }

verdict_told : (services : Services) (face : FaceModel) (row : RowModel) → IsVerdictTold (verdict_of services face row)
verdict_told services face row =
    either IsVerdictTold (row.beacon == 1 && not services.beacon) (verdict_without_fault errors.Beacons) _ (record { error = refl; fault = tt })
    (either IsVerdictTold (row.pixel == 1 && not services.pixel) (verdict_without_fault errors.PixelService) (text_verdict (fault_of face row.text))
    (record { error = refl; fault = tt }) (text_verdict_told (fault_of face row.text) (fault_told face row.text)))

any_verdict : (services : Services) (face : FaceModel) (o : Option RowModel) → IfSome (option_map (verdict_of services face) o) IsVerdictTold
any_verdict services face None = tt
any_verdict services face (Some row) = verdict_told services face row

text_reported : (reports : Reports) (o : Option MultiFault) (error : ℕ) → IfSome o IsTold → is_validation_error error ≡ true
    → AreReported reports → AreReported (record (text_reports reports o) { validate_error = error })
text_reported reports None error told is are = record { validate = is; activate = are.activate; syntax_told = refl; place = refl }
text_reported reports (Some fault) error told is are =
    record { validate = is; activate = are.activate; syntax_told = told_syntax fault told; place = told_place fault told }

settled_reported : (reports : Reports) (o : Option Verdict) → AreReported reports → IfSome o IsVerdictTold → AreReported (settled_reports reports o)
settled_reported reports None are told = are
settled_reported reports (Some verdict) are told = text_reported reports verdict.fault verdict.error told.fault told.error are

pub verdict_reported : (reports : Reports) (face : FaceModel) (table : TableModel) → AreReported reports → AreReported (settled_reports reports (verdict face table))
verdict_reported reports face table are =
    settled_reported reports (verdict face table) are (any_verdict table.services face (settling_row table))

-- ---- what is shown

-- a message as it came up, with power or without
pub record IsPutUp (powered : Bool) (shown : ShownModel) : Type 0 where
  pub by_source : IsBlankBySource shown
  pub mode : is_mode shown.mode ≡ true
  pub power : (shown.mode == power_loss_mode) ≡ not powered
  pub time : is_time shown.mode shown.remaining ≡ true

minutes_time : (endless : Bool) (mode minutes : ℕ) → (minutes == 65535) ≡ endless → (mode == power_loss_mode) ≡ false → minutes ≤ 65535
    → is_time mode (cond endless None (Some (minutes * 60))) ≡ true
minutes_time true mode minutes is other few = refl
minutes_time false mode minutes is other few =
    let apart : minutes ≡ 65535 → ⊥ = eqb-false minutes 65535 is in
    and_from (not (mode == power_loss_mode)) (nat_le (minutes * 60) (65534 * 60)) (ap not other)
    (le-leb (minutes * 60) (65534 * 60) (omega (arith, apart, few)))

-- so many minutes remain
pub with_minutes : (shown : ShownModel) (minutes : ℕ) → minutes ≤ 65535 → IsPutUp true shown → IsPutUp true (record shown { remaining = seconds_of minutes })
with_minutes shown minutes few is =
    record { by_source = is.by_source; mode = is.mode; power = is.power; time = minutes_time (minutes == 65535) shown.mode minutes refl is.power few }

second_less : (mode seconds : ℕ) → is_time mode (Some seconds) ≡ true → is_time mode (Some (seconds - 1)) ≡ true
second_less mode seconds is =
    let both = and_parts (not (mode == power_loss_mode)) (nat_le seconds (65534 * 60)) is in
    let few : seconds ≤ 65534 * 60 = leb-true seconds (65534 * 60) both.1 in
    and_from (not (mode == power_loss_mode)) (nat_le (seconds - 1) (65534 * 60)) both.0 (le-leb (seconds - 1) (65534 * 60) (omega (arith, few)))

-- a second less remains
pub with_less : (shown : ShownModel) (seconds : ℕ) → shown.remaining ≡ Some seconds → IsPutUp true shown → IsPutUp true (record shown { remaining = Some (seconds - 1) })
with_less shown seconds e is = record {
  by_source = is.by_source;
  mode = is.mode;
  power = is.power;
  time = second_less shown.mode seconds (ap (is_time shown.mode) (sym e) ∙ is.time);
}

pub decided_up : (shown : ShownModel) (minutes : ℕ) → minutes ≤ 65535 → IsDecidedBy minutes shown → IsPutUp true shown
decided_up shown minutes few is =
    let other : (shown.mode == power_loss_mode) ≡ false = ap (λ mode. mode == power_loss_mode) is.mode in
    record {
      by_source = is.by_source;
      mode = ap is_mode is.mode;
      power = other;
      time = ap (is_time shown.mode) is.remaining ∙ minutes_time (minutes == 65535) shown.mode minutes refl other few;
    }

-- ---- codes of the sign's own

-- what comes of one: its message, with this mode and without an end
pub record IsAfterCode (old : SignState) (mode : ℕ) (new : SignState) : Type 0 where
  pub by_source : IsBlankBySource new.shown
  pub mode_now : new.shown.mode ≡ mode
  pub endless : new.shown.remaining ≡ None
  pub reports : AreReported new.reports
  pub table : new.table ≡ old.table
  pub kept_still : new.shown_at_power_loss ≡ old.shown_at_power_loss
  pub powered : new.powered ≡ old.powered

as_decided : (s : SignState) (id : MessageId) (mode : ℕ) (r : Result ShownModel Cause) → AreReported s.reports → IsDecision 65535 r
    → IsAfterCode s mode (put_up_as_decided s id mode r)
as_decided s id mode (Ok shown) are is = record {
  by_source = is.by_source;
  mode_now = refl;
  endless = is.remaining;
  reports = are;
  table = refl;
  kept_still = refl;
  powered = refl;
}
as_decided s id mode (Err cause) are told = record {
  by_source = refl;
  mode_now = refl;
  endless = refl;
  reports = refused_reported s.reports cause _ are told;
  table = refl;
  kept_still = refl;
  powered = refl;
}

pub after_code : (s : SignState) (octets : List ℕ) (mode : ℕ) → IsBlankBySource s.shown → AreReported s.reports → IsAfterCode s mode (put_up_code s octets mode)
unfolding put_up_code
after_code s octets mode is are =
    let id = id_of s.table.order octets in
    either (IsAfterCode s mode) (id.memory == current_buffer) (staying s mode)
    (put_up_as_decided s id mode (decided s.config.face s.settings.defaults s.table s.shown (own_activation id)))
    (record { by_source = is; mode_now = refl; endless = refl; reports = are; table = refl; kept_still = refl; powered = refl })
    (as_decided s id mode (decided s.config.face s.settings.defaults s.table s.shown (own_activation id)) are
    (decided_told s.config.face s.settings.defaults s.table s.shown (own_activation id) is))

-- it is put up with power or without
pub code_up : (powered : Bool) (old new : SignState) (mode : ℕ) → is_mode mode ≡ true → (mode == power_loss_mode) ≡ not powered → IsAfterCode old mode new
    → IsPutUp powered new.shown
code_up powered old new mode known other is = record {
  by_source = is.by_source;
  mode = ap is_mode is.mode_now ∙ known;
  power = ap (λ mode. mode == power_loss_mode) is.mode_now ∙ other;
  time = ap (is_time new.shown.mode) is.endless;
}
