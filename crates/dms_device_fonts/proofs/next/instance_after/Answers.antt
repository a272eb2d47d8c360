use Rattle.std.proofs.Common.{ℕ, ◌+◌, ◌-◌, sym, ◌∙◌}
use Rattle.std.specs.Prelude.{option_map}
use Rattle.dms_device_fonts.specs.Tree.{tree_first, tree_after, first_from, below}
use Rattle.dms_device_fonts.specs.Fonts.{font_object}
use Rattle.dms_device_fonts.specs.View.{place_binding}
use Rattle.dms_device_fonts.proofs.Choices.{or_found, or_missing}
use Rattle.dms_device_fonts.proofs.next.instance_after.Goals as goal

pub returns-in-First-clause-place : goal.returns-in-First-clause-place
returns-in-First-clause-place c = c.first_place.ensures.place ∙ sym (c.in-First.ensures.after (font_object c.args.fonts.now))

pub returns-in-Some-clause-place : goal.returns-in-Some-clause-place
returns-in-Some-clause-place c =
    let first = λ (n : ℕ). tree_first (font_object c.args.fonts.now n) in
    let number = c.in-Inside.below.number in
    or_found (option_map (below number) (tree_after (font_object c.args.fonts.now number) c.in-Inside.below.rest)) (first_from first (number + 1) (6 - (number + 1)))
    (place_binding c.args.fonts.now c.in-Some.place) c.in-Some.ensures.place
    ∙ sym (c.in-Inside.ensures.after (font_object c.args.fonts.now))

pub returns-in-None-clause-place : goal.returns-in-None-clause-place
returns-in-None-clause-place c =
    let first = λ (n : ℕ). tree_first (font_object c.args.fonts.now n) in
    let number = c.in-Inside.below.number in
    c.first_place-in-None.ensures.place
    ∙ or_missing (option_map (below number) (tree_after (font_object c.args.fonts.now number) c.in-Inside.below.rest)) (first_from first (number + 1) (6 - (number + 1))) c.in-None.ensures.place
    ∙ sym (c.in-Inside.ensures.after (font_object c.args.fonts.now))

pub returns-in-Past-clause-place : goal.returns-in-Past-clause-place
returns-in-Past-clause-place c = sym (c.in-Past.ensures.after (font_object c.args.fonts.now))
