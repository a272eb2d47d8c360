-- Whatever comes to a sign, how its messages came up and what it reports is what a saved state may say.
use Rattle.std.proofs.Common.{◌≡◌, ℕ, ◌+◌, ◌≤◌, ◌==◌, ◌&&◌, ◌||◌, Bool, true, false, cond, List, [], ◌∷◌, find, Option, Some, None, Result, Ok, Err, refl, sym, subst, ◌∙◌}
use Rattle.std.specs.Prelude.{nat_lt, nat_le}
use Rattle.std.specs.Option.{IfSome}
use Rattle.std.proofs.lemmas.Bool.{and_parts}
use Rattle.dms_wire.specs.declared.message.Kind.{Kind}
use Rattle.dms_wire.specs.declared.message.Kind.TheVariants.{Get, GetNext, Response, Set}
use Rattle.dms_wire.specs.Limits.{AreBindingsInLimits}
use Rattle.dms_wire.specs.Message.{VarBind, SnmpMessage}
use Rattle.dms_wire.specs.MessageOf.{message_of}
use Rattle.dms_wire.proofs.LimitsLaws.{spelled_in_limits}
use Rattle.dms_wire.proofs.MessageOfLaws.{read_is_spelled}
use Rattle.dms_codes.specs.Codes.{activation_of}
use Rattle.dms_face.specs.Layout.{under}
use Rattle.dms_face.proofs.Lists.{if_found}
use Rattle.dms_table.specs.declared.activation.Cause.{Cause}
use Rattle.dms_table.specs.Rows.{TableModel, asked}
use Rattle.dms_table.specs.Activation.{ShownModel, seconds_of, decided}
use Rattle.dms_table.specs.SavedShown.{is_mode}
use Rattle.dms_sign_access.specs.Access.{Write, SetNumber, SetCode, SetField, AskRow, Activate, SetRemaining, is_command}
use Rattle.dms_sign.specs.State.{SignState, power_recovery_mode, communications_loss_mode, power_loss_mode, end_duration_mode}
use Rattle.dms_sign.specs.OwnCodes.{showing, put_up_code}
use Rattle.dms_sign.specs.SetRequest.{SetCause, causes, assigned}
use Rattle.dms_sign.specs.Requests.{found_unless, as_decided, as_asked, with_remaining, commanded, commanded_if, writes_of, set_unless, may_write, is_community, answer_by, answer_of_any_size}
use Rattle.dms_sign.specs.Reply.{is_request, is_heard, heard, dropped, on_message_if, received, awake}
use Rattle.dms_sign.specs.Events.{after_settling, counted_down, after_duration, longest_silence, quieter, after_silence, after_tick, recovery_code, restored, after_power_loss, after_power_return}
use Rattle.dms_sign.proofs.InRangeLists.{either}
use Rattle.dms_sign.proofs.InRangeSets.{IsWriteInRange, writes_in_range}
use Rattle.dms_sign.proofs.InRangeShown.{activation_is}
use Rattle.dms_sign_restored.proofs.PutUps.{IsDecision, decided_told, AreReported, refused_reported, verdict_reported, IsPutUp, with_minutes, with_less, decided_up, IsAfterCode, after_code, code_up}
use Rattle.dms_sign_restored.proofs.Shapes.{HasShape, asked_shape, writes_shape, settled_shape, power_shape}

-- what holds of a sign that has power
pub record IsGoing (first : TableModel) (s : SignState) : Type 0 where
  pub on : s.powered ≡ true
  pub rows : HasShape first s.table
  pub shown : IsPutUp true s.shown
  pub kept : IsPutUp true s.shown_at_power_loss
  pub reports : AreReported s.reports

-- ---- codes of the sign's own

after_own : (first : TableModel) (old new : SignState) (mode : ℕ) → is_mode mode ≡ true → (mode == power_loss_mode) ≡ false → IsGoing first old
    → IsAfterCode old mode new → IsGoing first new
after_own first old new mode known other is after = record {
  on = after.powered ∙ is.on;
  rows = subst (HasShape first) (sym after.table) is.rows;
  shown = code_up true old new mode known other after;
  kept = subst (IsPutUp true) (sym after.kept_still) is.kept;
  reports = after.reports;
}

code_going : (first : TableModel) (s : SignState) (octets : List ℕ) (mode : ℕ) → is_mode mode ≡ true → (mode == power_loss_mode) ≡ false → IsGoing first s
    → IsGoing first (put_up_code s octets mode)
code_going first s octets mode known other is =
    after_own first s (put_up_code s octets mode) mode known other is (after_code s octets mode is.shown.by_source is.reports)

-- ---- commands

assigned_going : (first : TableModel) (s : SignState) (writes : List Write) → IsGoing first s → IsGoing first (assigned s writes)
unfolding assigned
assigned_going first s writes is =
    record { on = is.on; rows = writes_shape first s.table writes is.rows; shown = is.shown; kept = is.kept; reports = is.reports }

with_shown : (first : TableModel) (s : SignState) (shown : ShownModel) → IsGoing first s → IsPutUp true shown → IsGoing first (showing s shown)
with_shown first s shown is up = record { on = is.on; rows = is.rows; shown = up; kept = is.kept; reports = is.reports }

with_new_rows : (first : TableModel) (s : SignState) (table : TableModel) → IsGoing first s → HasShape first table → IsGoing first (record s { table = table })
with_new_rows first s table is rows = record { on = is.on; rows = rows; shown = is.shown; kept = is.kept; reports = is.reports }

decided_going : (first : TableModel) (old new : SignState) (bindings : List VarBind) (index : ℕ) (octets : List ℕ) (minutes : ℕ) (r : Result ShownModel Cause)
    → IsGoing first old → IsGoing first new → minutes ≤ 65535 → IsDecision minutes r → IsGoing first (as_decided old new bindings index octets r).after
decided_going first old new bindings index octets minutes (Ok shown) was is few decision = record {
  on = is.on;
  rows = is.rows;
  shown = decided_up shown minutes few decision;
  kept = is.kept;
  reports = record { validate = is.reports.validate; activate = refl; syntax_told = is.reports.syntax_told; place = is.reports.place };
}
decided_going first old new bindings index octets minutes (Err cause) was is few told = record {
  on = was.on;
  rows = was.rows;
  shown = was.shown;
  kept = was.kept;
  reports = refused_reported old.reports cause octets was.reports told;
}

asked_going : (first : TableModel) (old new : SignState) (bindings : List VarBind) (index : ℕ) (o : Option TableModel) → IsGoing first old → IsGoing first new
    → IfSome o (HasShape first) → IsGoing first (as_asked old new bindings index o).after
asked_going first old new bindings index None was is rows = was
asked_going first old new bindings index (Some table) was is rows = with_new_rows first new table is rows

remaining_going : (first : TableModel) (s : SignState) (minutes : ℕ) → minutes ≤ 65535 → IsGoing first s → IsGoing first (with_remaining s minutes)
remaining_going first s minutes few is =
    either (IsGoing first) (minutes == 0) (put_up_code s s.settings.fallbacks.end_duration end_duration_mode)
    (showing s (record s.shown { remaining = seconds_of minutes }))
    (code_going first s s.settings.fallbacks.end_duration end_duration_mode refl refl is)
    (with_shown first s (record s.shown { remaining = seconds_of minutes }) is (with_minutes s.shown minutes few is.shown))

command_going : (first : TableModel) (old new : SignState) (bindings : List VarBind) (index : ℕ) (write : Write) → IsGoing first old → IsGoing first new
    → IsWriteInRange write → IsGoing first (commanded old new bindings index write).after
command_going first old new bindings index (AskRow id ask) was is write =
    asked_going first old new bindings index (asked new.table id ask) was is (asked_shape first new.table id ask is.rows)
command_going first old new bindings index (Activate octets) was is write =
    let code = activation_of old.table.order octets in
    decided_going first old new bindings index octets code.minutes (decided new.config.face new.settings.defaults new.table new.shown code) was is
    (activation_is old.table.order octets write.below).minutes
    (decided_told new.config.face new.settings.defaults new.table new.shown code is.shown.by_source)
command_going first old new bindings index (SetRemaining minutes) was is write = remaining_going first new minutes write is
command_going first old new bindings index (SetNumber object number) was is write = is
command_going first old new bindings index (SetCode object octets) was is write = is
command_going first old new bindings index (SetField id field) was is write = is

command_if_going : (first : TableModel) (old new : SignState) (bindings : List VarBind) (index : ℕ) (o : Option Write) → IsGoing first old → IsGoing first new
    → IfSome o IsWriteInRange → IsGoing first (commanded_if old new bindings index o).after
command_if_going first old new bindings index None was is write = is
command_if_going first old new bindings index (Some command) was is write = command_going first old new bindings index command was is write

-- ---- datagrams

set_going : (first : TableModel) (s : SignState) (bindings : List VarBind) (found : List SetCause) → AreBindingsInLimits bindings → IsGoing first s
    → IsGoing first (set_unless s bindings found).after
set_going first s bindings [] within is =
    let writes = writes_in_range s bindings within in
    command_if_going first s (assigned s (writes_of s bindings)) bindings _ (find is_command (writes_of s bindings)) is
    (assigned_going first s (writes_of s bindings) is) (if_found IsWriteInRange is_command (writes_of s bindings) writes)
set_going first s bindings (cause ∷ more) within is = is

found_going : (first : TableModel) (s : SignState) (bindings found : List VarBind) (o : Option ℕ) → IsGoing first s → IsGoing first (found_unless s bindings found o).after
found_going first s bindings found None is = is
found_going first s bindings found (Some index) is = is

kind_going : (first : TableModel) (s : SignState) (m : SnmpMessage) (kind : Kind) → AreBindingsInLimits m.bindings → IsGoing first s
    → IsGoing first (answer_by s m kind).after
kind_going first s m Get within is = found_going first s m.bindings _ _ is
kind_going first s m GetNext within is = found_going first s m.bindings _ _ is
kind_going first s m Response within is = is
kind_going first s m Set within is = set_going first s m.bindings (causes s (may_write s m) m.bindings) within is

answer_going : (first : TableModel) (s : SignState) (m : SnmpMessage) → AreBindingsInLimits m.bindings → IsGoing first s → IsGoing first (answer_of_any_size s m).after
unfolding answer_of_any_size
answer_going first s m within is = kind_going first s m m.kind within is

awake_going : (first : TableModel) (s : SignState) → IsGoing first s → IsGoing first (awake s)
awake_going first s is = record { on = is.on; rows = is.rows; shown = is.shown; kept = is.kept; reports = is.reports }

-- ---- a second

settling_going : (first : TableModel) (s : SignState) → IsGoing first s → IsGoing first (after_settling s)
unfolding after_settling
settling_going first s is =
    let face = under s.config.face s.settings.defaults in
    record {
      on = is.on;
      rows = settled_shape first face s.table is.rows;
      shown = is.shown;
      kept = is.kept;
      reports = verdict_reported s.reports face s.table is.reports;
    }

down_going : (first : TableModel) (s : SignState) (o : Option ℕ) → s.shown.remaining ≡ o → IsGoing first s → IsGoing first (counted_down s o)
down_going first s None e is = is
down_going first s (Some seconds) e is =
    either (IsGoing first) (nat_le seconds 1) (put_up_code s s.settings.fallbacks.end_duration end_duration_mode) _
    (code_going first s s.settings.fallbacks.end_duration end_duration_mode refl refl is)
    (with_shown first s _ is (with_less s.shown seconds e is.shown))

duration_going : (first : TableModel) (s : SignState) → IsGoing first s → IsGoing first (after_duration s)
unfolding after_duration
duration_going first s is = down_going first s s.shown.remaining refl is

quieter_going : (first : TableModel) (s : SignState) → IsGoing first s → IsGoing first (quieter s)
quieter_going first s is = record { on = is.on; rows = is.rows; shown = is.shown; kept = is.kept; reports = is.reports }

silence_going : (first : TableModel) (s : SignState) → IsGoing first s → IsGoing first (after_silence s)
unfolding after_silence
silence_going first s is =
    either (IsGoing first) (nat_lt s.silent_seconds (longest_silence s)) _ s
    (either (IsGoing first) (s.silent_seconds + 1 == longest_silence s)
    (put_up_code (quieter s) s.settings.fallbacks.communications_loss communications_loss_mode) (quieter s)
    (code_going first (quieter s) s.settings.fallbacks.communications_loss communications_loss_mode refl refl (quieter_going first s is))
    (quieter_going first s is)) is

-- ---- every sign, with power or without

pub record IsHeld (first : TableModel) (s : SignState) : Type 0 where
  pub rows : HasShape first s.table
  pub shown : IsPutUp s.powered s.shown
  pub kept : IsPutUp true s.shown_at_power_loss
  pub reports : AreReported s.reports

powered_going : (first : TableModel) (s : SignState) → s.powered ≡ true → IsHeld first s → IsGoing first s
powered_going first s on is =
    record { on = on; rows = is.rows; shown = subst (λ powered. IsPutUp powered s.shown) on is.shown; kept = is.kept; reports = is.reports }

going_held : (first : TableModel) (s : SignState) → IsGoing first s → IsHeld first s
going_held first s is =
    record { rows = is.rows; shown = subst (λ powered. IsPutUp powered s.shown) (sym is.on) is.shown; kept = is.kept; reports = is.reports }

-- what a sign does with power alone
powered_or : (powered : Bool) (first : TableModel) (s after : SignState) → s.powered ≡ powered → IsHeld first s
    → (IsGoing first s → IsGoing first after) → IsHeld first (cond powered after s)
powered_or true first s after on is each = going_held first after (each (powered_going first s on is))
powered_or false first s after on is each = is

heard_held : (hears : Bool) (first : TableModel) (s : SignState) (m : SnmpMessage) → is_heard s m ≡ hears → AreBindingsInLimits m.bindings → IsHeld first s
    → IsHeld first (cond hears (heard s m) (dropped s)).after
heard_held true first s m e within is =
    let parts = and_parts (s.powered && is_request m.kind) (is_community m.community s.config.reader || is_community m.community s.config.writer) e in
    let on = (and_parts s.powered (is_request m.kind) parts.0).0 in
    going_held first (heard s m).after (awake_going first (answer_of_any_size s m).after (answer_going first s m within (powered_going first s on is)))
heard_held false first s m e within is = is

message_held : (first : TableModel) (s : SignState) (octets : List ℕ) (o : Option SnmpMessage) → message_of octets ≡ o → IsHeld first s
    → IsHeld first (on_message_if s o).after
message_held first s octets None e is = is
message_held first s octets (Some m) e is =
    heard_held (is_heard s m) first s m refl (spelled_in_limits m octets ((read_is_spelled octets m).0 e)).bindings is

pub received_held : (first : TableModel) (s : SignState) (octets : List ℕ) → IsHeld first s → IsHeld first (received s octets).after
unfolding received
received_held first s octets is = message_held first s octets (message_of octets) refl is

pub tick_held : (first : TableModel) (s : SignState) → IsHeld first s → IsHeld first (after_tick s)
unfolding after_tick
tick_held first s is =
    powered_or s.powered first s (after_silence (after_duration (after_settling s))) refl is (λ is.
    silence_going first (after_duration (after_settling s)) (duration_going first (after_settling s) (settling_going first s is)))

-- ---- power

-- what is put up as the power is lost
lost_by : (first : TableModel) (mid new : SignState) → HasShape first mid.table → IsPutUp true mid.shown_at_power_loss → IsAfterCode mid power_loss_mode new
    → IsHeld first (record new { powered = false })
lost_by first mid new rows kept after = record {
  rows = subst (HasShape first) (sym after.table) rows;
  shown = code_up false mid new power_loss_mode refl refl after;
  kept = subst (IsPutUp true) (sym after.kept_still) kept;
  reports = after.reports;
}

lost_if : (powered : Bool) (first : TableModel) (s : SignState) → s.powered ≡ powered → IsHeld first s
    → IsHeld first (cond powered
    (record (put_up_code (record s { shown_at_power_loss = s.shown }) s.settings.fallbacks.power_loss power_loss_mode) { powered = false }) s)
lost_if true first s on is =
    let is_going = powered_going first s on is in
    let mid : SignState = record s { shown_at_power_loss = s.shown } in
    lost_by first mid (put_up_code mid s.settings.fallbacks.power_loss power_loss_mode) is.rows is_going.shown
    (after_code mid s.settings.fallbacks.power_loss power_loss_mode is.shown.by_source is.reports)
lost_if false first s on is = is

pub power_loss_held : (first : TableModel) (s : SignState) → IsHeld first s → IsHeld first (after_power_loss s)
unfolding after_power_loss
power_loss_held first s is = lost_if s.powered first s refl is

restored_going : (first : TableModel) (s : SignState) → IsHeld first s → IsGoing first (restored s)
restored_going first s is =
    record { on = refl; rows = power_shape first s.table is.rows; shown = is.kept; kept = is.kept; reports = is.reports }

pub power_return_held : (first : TableModel) (s : SignState) (seconds : ℕ) → IsHeld first s → IsHeld first (after_power_return s seconds)
unfolding after_power_return
power_return_held first s seconds is =
    either (IsHeld first) s.powered s (put_up_code (restored s) (recovery_code s seconds) power_recovery_mode) is
    (going_held first (put_up_code (restored s) (recovery_code s seconds) power_recovery_mode)
    (code_going first (restored s) (recovery_code s seconds) power_recovery_mode refl refl (restored_going first s is)))
