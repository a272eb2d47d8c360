-- Seconds that pass one after another, and a sign that they leave as it is.
use Rattle.std.proofs.Common.{◌≡◌, ℕ, zero, suc, ◌+◌, ◌-◌, ◌≤◌, true, false, nat_le, refl, sym, ap, ◌∙◌, arith}
use Rattle.std.specs.Option.{is_none}
use Rattle.dms_face.specs.Layout.{under}
use Rattle.dms_table.specs.Rows.{is_settling}
use Rattle.dms_table.specs.Validation.{verdict}
use Rattle.dms_table.proofs.Settlement.{nothing_settled, no_verdict}
use Rattle.dms_sign_access.specs.Reports.{settled_reports}
use Rattle.dms_sign.specs.State.{SignState}
use Rattle.dms_sign.specs.Events.{after_settling, after_duration, after_silence, longest_silence, after_tick, after_ticks, is_at_rest}

-- where no row is being validated, settling leaves the sign as it is
unsettled : (s : SignState) → is_settling s.table ≡ false → after_settling s ≡ s
unfolding after_settling
unsettled s free =
    let face = under s.config.face s.settings.defaults in
    ap (λ table. record s { table = table; reports = settled_reports s.reports (verdict face s.table) }) (sym (nothing_settled face s.table free))
    ∙ ap (λ found. record s { reports = settled_reports s.reports found }) (sym (no_verdict face s.table free))

-- what is shown has no end
endless : (s : SignState) → is_none s.shown.remaining ≡ true → after_duration s ≡ s
unfolding after_duration
endless s none = grind arith

-- silence is at its limit
quiet : (s : SignState) → nat_le (longest_silence s) s.silent_seconds ≡ true → after_silence s ≡ s
unfolding after_silence
quiet s long = grind arith

-- a second leaves a sign at rest as it is
pub rests : (s : SignState) → is_at_rest s ≡ true → after_tick s ≡ s
unfolding after_tick
rests s rest = grind (arith, unsettled, endless, quiet)

pub none_passed : (s : SignState) → s ≡ after_ticks 0 s
unfolding after_ticks
none_passed s = refl

-- one second more
pub one_more : (seconds : ℕ) (s now next : SignState) → now ≡ after_ticks seconds s → next ≡ after_tick now → next ≡ after_ticks (seconds + 1) s
unfolding after_ticks
one_more seconds s now next so_far more =
    let same : suc seconds ≡ seconds + 1 = omega arith in
    more ∙ ap after_tick so_far ∙ ap (λ n. after_ticks n s) same

-- so many seconds more, where a second changes nothing
more_rest : (more seconds : ℕ) (s now : SignState) → now ≡ after_ticks seconds s → after_tick now ≡ now → now ≡ after_ticks (more + seconds) s
unfolding after_ticks
more_rest zero seconds s now so_far rest =
    let same : seconds ≡ 0 + seconds = omega arith in
    so_far ∙ ap (λ n. after_ticks n s) same
more_rest (suc more) seconds s now so_far rest =
    let same : suc (more + seconds) ≡ suc more + seconds = omega arith in
    sym rest ∙ ap after_tick (more_rest more seconds s now so_far rest) ∙ ap (λ n. after_ticks n s) same

-- seconds up to a greater number, where a second changes nothing
pub all_rest : (all seconds : ℕ) (s now : SignState) → seconds ≤ all → now ≡ after_ticks seconds s → is_at_rest now ≡ true → now ≡ after_ticks all s
all_rest all seconds s now within so_far rest =
    let same : (all - seconds) + seconds ≡ all = omega arith in
    more_rest (all - seconds) seconds s now so_far (rests now rest) ∙ ap (λ n. after_ticks n s) same
