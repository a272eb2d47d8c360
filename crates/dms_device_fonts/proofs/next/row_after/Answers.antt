use Rattle.std.proofs.Common.{◌≡◌, ◌+◌, ◌-◌, length, sym, ap, ◌∙◌, arith}
use Rattle.std.specs.Prelude.{option_map}
use Rattle.dms_device_fonts.specs.Tree.{tree_first, tree_after, first_from, or_first, below}
use Rattle.dms_device_fonts.specs.Fonts.{font_row, font_at}
use Rattle.dms_device_fonts.proofs.next.row_after.Goals as goal

pub returns-in-First-clause-row : goal.returns-in-First-clause-row
returns-in-First-clause-row c = λ column.
    let fonts = c.args.fonts.now in
    let count : length fonts + 1 - 1 ≡ length fonts = omega arith in
    c.first_row.ensures.row column ∙ ap (first_from (λ i. tree_first (font_row c.args.table column i (font_at fonts i))) 1) count
    ∙ sym (c.in-First.ensures.after (λ i. font_row c.args.table column i (font_at fonts i)))

pub returns-in-Inside-clause-row : goal.returns-in-Inside-clause-row
returns-in-Inside-clause-row c = λ column.
    let fonts = c.args.fonts.now in
    let number = c.in-Inside.below.number in
    let count : length fonts + 1 - (number + 1) ≡ 1 + length fonts - (number + 1) = omega arith in
    c.row_from.ensures.row column
    ∙ ap (λ n. or_first (option_map (below number) (tree_after (font_row c.args.table column number (font_at fonts number)) c.in-Inside.below.rest))
    (first_from (λ i. tree_first (font_row c.args.table column i (font_at fonts i))) (number + 1) n)) count
    ∙ sym (c.in-Inside.ensures.after (λ i. font_row c.args.table column i (font_at fonts i)))

pub returns-in-Past-clause-row : goal.returns-in-Past-clause-row
returns-in-Past-clause-row c = λ column. sym (c.in-Past.ensures.after (λ i. font_row c.args.table column i (font_at c.args.fonts.now i)))
