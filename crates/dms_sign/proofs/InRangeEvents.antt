-- A second, a loss of power and its return keep a sign in range.
use Rattle.std.proofs.Common.{◌≡◌, ℕ, ◌+◌, ◌*◌, ◌≤◌, ◌==◌, Bool, cond, Option, refl, arith, ltb, ltb-true}
use Rattle.std.specs.Prelude.{option_map}
use Rattle.std.specs.Option.{IfSome}
use Rattle.std.proofs.lemmas.List.{length-map}
use Rattle.dms_face.specs.declared.multi_fault.MultiFault.{MultiFault}
use Rattle.dms_face.specs.Face.{FaceModel}
use Rattle.dms_face.specs.Layout.{under}
use Rattle.dms_table.specs.declared.row.Services.{Services}
use Rattle.dms_codes.specs.declared.status.Status.{Status}
use Rattle.dms_table.specs.declared.validation.Verdict.{Verdict}
use Rattle.dms_table.specs.Rows.{RowModel, TableModel, row_is_validating, interrupted, released, unused, after_power}
use Rattle.dms_codes.specs.Limits.{longest_text}
use Rattle.dms_table.specs.Validation.{text_verdict, verdict_of, settled_row, settled, settling_row, verdict}
use Rattle.dms_sign_access.specs.declared.reports.Reports.{Reports}
use Rattle.dms_sign.specs.State.{SignState, power_recovery_mode, communications_loss_mode}
use Rattle.dms_sign.specs.OwnCodes.{put_up_code}
use Rattle.dms_sign_access.specs.Reports.{settled_reports}
use Rattle.dms_sign.specs.Events.{after_settling, counted_down, after_duration, longest_silence, quieter, after_silence, after_tick, after_power_loss, recovery_code, restored, after_power_return}
use Rattle.dms_sign.specs.InRange.{AreOctets, most_minutes, IsRowInRange, IsTableInRange, IsTimeInRange, AreReportsInRange, IsSignInRange}
use Rattle.dms_sign.proofs.InRangeLists.{either, all_mapped}
use Rattle.dms_sign.proofs.InRangeFaults.{fault_placed}
use Rattle.dms_sign.proofs.InRangeShown.{showing_in_range, telling_in_range, with_table_in_range, with_time, code_in_range}

-- ---- settling

abbrev pub IsFaultPlaced : Option MultiFault → Type 0
IsFaultPlaced o = IfSome o (λ fault. fault.place ≤ longest_text)

pub record IsVerdictInRange (verdict : Verdict) : Type 0 where
  pub error : verdict.error ≤ 255
  pub fault : IsFaultPlaced verdict.fault

text_verdict_in_range : (o : Option MultiFault) → IsFaultPlaced o → IsVerdictInRange (text_verdict o)
text_verdict_in_range o placed = grind arith

verdict_in_range : (services : Services) (face : FaceModel) (row : RowModel) → IsVerdictInRange (verdict_of services face row)
verdict_in_range services face row = grind (arith, either, text_verdict_in_range, fault_placed)

any_if : {X Y : Type 0} (P : Y → Type 0) (f : X → Y) (o : Option X) → ((x : X) → P (f x)) → IfSome (option_map f o) P
any_if P f o each = grind arith

pub settled_verdict : (face : FaceModel) (table : TableModel) → IfSome (verdict face table) IsVerdictInRange
settled_verdict face table = any_if IsVerdictInRange (verdict_of table.services face) (settling_row table) (verdict_in_range table.services face)

pub verdict_reported : (reports : Reports) (o : Option Verdict) → AreReportsInRange reports → IfSome o IsVerdictInRange
    → AreReportsInRange (settled_reports reports o)
verdict_reported reports o are verdict = grind arith

pub with_status_in_range : (row : RowModel) (status : Status) → IsRowInRange row → IsRowInRange (record row { status = status })
with_status_in_range row status is = grind arith

pub unused_in_range : IsRowInRange unused
unused_in_range = grind arith

settled_row_in_range : (services : Services) (face : FaceModel) (row : RowModel) → IsRowInRange row → IsRowInRange (settled_row services face row)
settled_row_in_range services face row is = either IsRowInRange (row_is_validating row) _ row (with_status_in_range row _ is) is

pub settled_in_range : (face : FaceModel) (table : TableModel) → IsTableInRange table → IsTableInRange (settled face table)
settled_in_range face table is =
    let new = settled_row table.services face in
    let each = settled_row_in_range table.services face in
    record {
      permanent = is.permanent;
      changeable = all_mapped IsRowInRange IsRowInRange new table.changeable each is.changeable;
      volatile = all_mapped IsRowInRange IsRowInRange new table.volatile each is.volatile;
      permanent_count = is.permanent_count;
      changeable_count = omega (arith, length-map table.changeable new, is.changeable_count);
      volatile_count = omega (arith, length-map table.volatile new, is.volatile_count);
    }

settling_in_range : (s : SignState) → IsSignInRange s → IsSignInRange (after_settling s)
unfolding after_settling
settling_in_range s is =
    let face = under s.config.face s.settings.defaults in
    telling_in_range (record s { table = settled face s.table }) (settled_reports s.reports (verdict face s.table))
    (with_table_in_range s (settled face s.table) is (settled_in_range face s.table is.table))
    (verdict_reported s.reports (verdict face s.table) is.reports (settled_verdict face s.table))

-- ---- a second

down_in_range : (s : SignState) (o : Option ℕ) → IsSignInRange s → IsTimeInRange o → IsSignInRange (counted_down s o)
down_in_range s o is time = grind (arith, either, code_in_range, showing_in_range, with_time)

duration_in_range : (s : SignState) → IsSignInRange s → IsSignInRange (after_duration s)
unfolding after_duration
duration_in_range s is = down_in_range s s.shown.remaining is is.shown.remaining

pub with_silence : (s : SignState) (silent_seconds : ℕ) → IsSignInRange s → silent_seconds ≤ 60 * most_minutes → IsSignInRange (record s { silent_seconds = silent_seconds })
with_silence s silent_seconds is few = grind arith

silence_by : (s : SignState) (b : Bool) → ltb s.silent_seconds (longest_silence s) ≡ b → IsSignInRange s
    → IsSignInRange (cond b
    (cond (s.silent_seconds + 1 == longest_silence s) (put_up_code (quieter s) s.settings.fallbacks.communications_loss communications_loss_mode) (quieter s))
    s)
silence_by s b e is = grind (arith, ltb-true, with_silence, either, code_in_range)

silence_in_range : (s : SignState) → IsSignInRange s → IsSignInRange (after_silence s)
unfolding after_silence
silence_in_range s is = silence_by s (ltb s.silent_seconds (longest_silence s)) refl is

pub tick_in_range : (s : SignState) → IsSignInRange s → IsSignInRange (after_tick s)
unfolding after_tick
tick_in_range s is = grind (arith, either, silence_in_range, duration_in_range, settling_in_range)

-- ---- power

with_power : (s : SignState) (powered : Bool) → IsSignInRange s → IsSignInRange (record s { powered = powered })
with_power s powered is = grind arith

keeping : (s : SignState) → IsSignInRange s → IsSignInRange (record s { shown_at_power_loss = s.shown })
keeping s is = grind arith

pub power_loss_in_range : (s : SignState) → IsSignInRange s → IsSignInRange (after_power_loss s)
unfolding after_power_loss
power_loss_in_range s is = grind (arith, either, with_power, code_in_range, keeping)

interrupted_in_range : (row : RowModel) → IsRowInRange row → IsRowInRange (interrupted row)
interrupted_in_range row is = either IsRowInRange (row_is_validating row) _ row (with_status_in_range row _ is) is

pub after_power_in_range : (table : TableModel) → IsTableInRange table → IsTableInRange (after_power table)
after_power_in_range table is = record {
  permanent = is.permanent;
  changeable = all_mapped IsRowInRange IsRowInRange interrupted table.changeable interrupted_in_range is.changeable;
  volatile = all_mapped IsRowInRange IsRowInRange released table.volatile (λ row h. unused_in_range) is.volatile;
  permanent_count = is.permanent_count;
  changeable_count = omega (arith, length-map table.changeable interrupted, is.changeable_count);
  volatile_count = omega (arith, length-map table.volatile released, is.volatile_count);
}

pub restored_in_range : (s : SignState) → IsSignInRange s → IsSignInRange (restored s)
restored_in_range s is = record {
  config = is.config;
  table = after_power_in_range s.table is.table;
  settings = is.settings;
  silent_seconds = omega arith;
  shown = is.shown_at_power_loss;
  shown_at_power_loss = is.shown_at_power_loss;
  reports = is.reports;
}

recovery_in_range : (s : SignState) (seconds : ℕ) → IsSignInRange s → AreOctets 5 (recovery_code s seconds)
recovery_in_range s seconds is = grind arith

pub power_return_in_range : (s : SignState) (seconds : ℕ) → IsSignInRange s → IsSignInRange (after_power_return s seconds)
unfolding after_power_return
power_return_in_range s seconds is =
    either IsSignInRange s.powered s (put_up_code (restored s) (recovery_code s seconds) power_recovery_mode) is
    (code_in_range (restored s) (recovery_code s seconds) power_recovery_mode (restored_in_range s is) (recovery_in_range s seconds is).below (omega arith))
