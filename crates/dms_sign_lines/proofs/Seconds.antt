-- So many seconds are so many lines of one second.
use Rattle.std.proofs.Common.{◌≡◌, ℕ, zero, suc, List, refl, sym, ap, ◌∙◌, replicate}
use Rattle.std.specs.Prelude.{codes, fold}
use Rattle.dms_sign.specs.State.{SignState}
use Rattle.dms_sign.specs.Events.{after_tick, after_ticks}
use Rattle.dms_sign_lines.specs.SignCall.{tick, ticks}
use Rattle.dms_sign_lines.specs.SignLine.{SpellsSignCall}
use Rattle.dms_sign_lines.specs.Answer.{after_line}
use Rattle.dms_sign_lines.proofs.CallLaws.{after_the_call}

-- one second first
first_passes : (seconds : ℕ) (s : SignState) → after_ticks seconds (after_tick s) ≡ after_tick (after_ticks seconds s)
unfolding after_ticks
first_passes zero s = refl
first_passes (suc seconds) s = ap after_tick (first_passes seconds s)

tick_line : (s : SignState) → after_line s (codes "tick") ≡ after_tick s
tick_line s = after_the_call s (codes "tick") tick refl

lines_pass : (seconds : ℕ) (s : SignState) → after_ticks seconds s ≡ fold after_line s (replicate seconds (codes "tick"))
unfolding after_ticks
lines_pass zero s = refl
lines_pass (suc seconds) s =
    sym (first_passes seconds s) ∙ lines_pass seconds (after_tick s)
    ∙ ap (λ next. fold after_line next (replicate seconds (codes "tick"))) (sym (tick_line s))

pub ticks_are_ticks : (s : SignState) (seconds : ℕ) (line : List ℕ) → SpellsSignCall (ticks seconds) line
    → after_line s line ≡ fold after_line s (replicate seconds (codes "tick"))
ticks_are_ticks s seconds line spelled = after_the_call s line (ticks seconds) spelled ∙ lines_pass seconds s
