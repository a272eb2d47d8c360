-- A text whose size is counted up to the greatest number, and a buffer that has room for it.
use Rattle.std.proofs.Common.{◌≡◌, ℕ, ◌<◌, ◌≤◌, false, if◌then◌else◌, nat_lt, List, length, ap, sym, ◌∙◌, arith, inl, inr}
use Rattle.std.proofs.lemmas.Bool.{cases_lt}
use Rattle.std.proofs.lemmas.Bool.Decides.{nat_tests}
use Rattle.dms_text_filling.specs.Filling.{counted, laid, most_counted}
use Rattle.dms_text_filling.proofs.Laid.{laid_whole}
use Rattle.wisangub_c.specs.Answers.{put_first, given_buffer}

fits : (n room : ℕ) → counted n ≤ room → room < most_counted → n ≤ room
fits n room enough few =
    elim (cases_lt n most_counted) [
      | inl below ↦ omega (arith, enough, below)
      | inr top ↦ absurd (omega (arith, enough, few, top))
    ]

not_less : (n room : ℕ) → n ≤ room → nat_lt room n ≡ false
not_less n room enough = grind (arith, nat_tests)

pub buffer_whole : (text buffer : List ℕ) → counted (length text) ≤ length buffer → length buffer < most_counted → laid 0 text buffer ≡ given_buffer text buffer
buffer_whole text buffer enough few =
    let whole : length text ≤ length buffer = fits (length text) (length buffer) enough few in
    laid_whole text buffer whole ∙ sym (ap (λ b. if b then buffer else put_first text buffer) (not_less (length text) (length buffer) whole))

pub ruleset sized = (buffer_whole)
