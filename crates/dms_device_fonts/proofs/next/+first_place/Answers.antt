use Rattle.std.proofs.Common.{ℕ, ◌+◌, ◌-◌, sym, ◌∙◌, arith}
use Rattle.std.specs.Prelude.{option_map}
use Rattle.dms_device_fonts.specs.Tree.{tree_first, first_from, below}
use Rattle.dms_device_fonts.specs.Fonts.{font_object}
use Rattle.dms_device_fonts.specs.View.{place_binding}
use Rattle.dms_device_fonts.proofs.Spans.{none_left}
use Rattle.dms_device_fonts.proofs.Choices.{or_found, or_missing, step_at}
use Rattle.dms_device_fonts.proofs.next.+first_place.Goals as goal

pub returns-then-number-gt5-clause-place : goal.returns-then-number-gt5-clause-place
returns-then-number-gt5-clause-place t c = sym (none_left (λ n. tree_first (font_object c.args.fonts.now n)) c.args.number 6 (omega arith))

pub returns-in-Some-clause-place : goal.returns-in-Some-clause-place
returns-in-Some-clause-place t c =
    let first = λ (n : ℕ). tree_first (font_object c.args.fonts.now n) in
    let number = c.args.number in
    or_found (option_map (below number) (first number)) (first_from first (number + 1) (6 - (number + 1))) (place_binding c.args.fonts.now c.in-Some.place) c.in-Some.ensures.place
    ∙ sym (step_at first number 6 (omega arith))

pub returns-in-None-clause-place : goal.returns-in-None-clause-place
returns-in-None-clause-place t c =
    let first = λ (n : ℕ). tree_first (font_object c.args.fonts.now n) in
    let number = c.args.number in
    c.first_place.ensures.place
    ∙ or_missing (option_map (below number) (first number)) (first_from first (number + 1) (6 - (number + 1))) c.in-None.ensures.place
    ∙ sym (step_at first number 6 (omega arith))
