-- What a second, a loss of power and its return make of a sign (this profile).
use Rattle.std.specs.Prelude.{ℕ, zero, suc, ◌+◌, ◌-◌, ◌*◌, ◌==◌, ◌&&◌, ◌||◌, Bool, true, false, not, List}
use Rattle.std.specs.Prelude.{Option, Some, None, is_none, nat_lt, nat_le, if◌then◌else◌}
use Rattle.dms_face.specs.Layout.{under}
use Rattle.dms_table.specs.Rows.{after_power, is_settling}
use Rattle.dms_table.specs.Validation.{settled, verdict}
use Rattle.dms_sign.specs.State.{SignState, power_recovery_mode, communications_loss_mode}
use Rattle.dms_sign.specs.State.{power_loss_mode, end_duration_mode}
use Rattle.dms_sign_access.specs.Reports.{settled_reports}
use Rattle.dms_sign.specs.OwnCodes.{showing, put_up_code}

-- ---- a second

-- The row that is being validated is settled, under the defaults of now.
unfoldable pub after_settling : SignState → SignState
after_settling s =
    let face = under s.config.face s.settings.defaults in
    record s { table = settled face s.table; reports = settled_reports s.reports (verdict face s.table) }

-- The message has a second less, with so many seconds left: at its end the code of the end of a duration is activated.
abbrev pub counted_down : SignState → Option ℕ → SignState
counted_down s None = s
counted_down s (Some seconds) =
    if nat_le seconds 1 then put_up_code s s.settings.fallbacks.end_duration end_duration_mode
    else showing s (record s.shown { remaining = Some (seconds - 1) })

unfoldable pub after_duration : SignState → SignState
after_duration s = counted_down s s.shown.remaining

-- the seconds of silence that are a loss of communications
abbrev pub longest_silence : SignState → ℕ
longest_silence s = 60 * s.settings.time_comm_loss

-- one more second of silence
abbrev pub quieter : SignState → SignState
quieter s = record s { silent_seconds = s.silent_seconds + 1 }

-- Silence is counted up to its limit, where the code of a communications loss is activated: once, until a datagram is
-- answered.
unfoldable pub after_silence : SignState → SignState
after_silence s =
    if nat_lt s.silent_seconds (longest_silence s)
    then (if s.silent_seconds + 1 == longest_silence s
    then put_up_code (quieter s) s.settings.fallbacks.communications_loss communications_loss_mode else quieter s)
    else s

-- A second: a row is settled, the duration goes on, and then the silence. A sign without power does nothing.
unfoldable pub after_tick : SignState → SignState
after_tick s = if s.powered then after_silence (after_duration (after_settling s)) else s

-- so many seconds, one after another
unfoldable pub after_ticks : ℕ → SignState → SignState
after_ticks zero s = s
after_ticks (suc seconds) s = after_tick (after_ticks seconds s)

-- A sign that a second leaves as it is: it has no power; or no row is being validated, what is shown has no end, and
-- silence has come to its limit.
abbrev pub is_at_rest : SignState → Bool
is_at_rest s =
    not s.powered
    || (is_none s.shown.remaining && nat_le (longest_silence s) s.silent_seconds && not (is_settling s.table))

-- ---- power

-- The power is lost: what is shown is kept, and the code of a power loss is activated.
unfoldable pub after_power_loss : SignState → SignState
after_power_loss s =
    if s.powered then record (put_up_code (record s { shown_at_power_loss = s.shown }) s.settings.fallbacks.power_loss
    power_loss_mode) { powered = false }
    else s

-- the code that is activated after a loss of so many seconds
abbrev pub recovery_code : SignState → ℕ → List ℕ
recovery_code s seconds =
    if nat_lt 0 s.settings.short_power_loss_time && nat_le seconds s.settings.short_power_loss_time
    then s.settings.fallbacks.short_power_recovery
    else s.settings.fallbacks.long_power_recovery

-- what is there as the power returns: what was shown at its loss is shown, volatile rows are gone, and no second was
-- silent
abbrev pub restored : SignState → SignState
restored s = record s { table = after_power s.table; shown = s.shown_at_power_loss; powered = true; silent_seconds = 0 }

-- The power is back after so many seconds, and the code of the recovery is activated.
unfoldable pub after_power_return : SignState → ℕ → SignState
after_power_return s seconds =
    if s.powered then s else put_up_code (restored s) (recovery_code s seconds) power_recovery_mode
