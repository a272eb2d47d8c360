use Rattle.std.proofs.Common.{◌≡◌, ◌+◌, ◌-◌, Some, length, sym, ap, ◌∙◌, arith}
use Rattle.dms_device_fonts.specs.Tree.{tree_first, tree_after, first_from}
use Rattle.dms_device_fonts.specs.Fonts.{font_row, font_at}
use Rattle.dms_device_fonts.specs.View.{end_binding}
use Rattle.dms_device_fonts.proofs.Choices.{or_some, or_none, font_there}
use Rattle.dms_device_fonts.proofs.next.row_from.Goals as goal

pub returns-in-Some-clause-row : goal.returns-in-Some-clause-row
returns-in-Some-clause-row c = λ column.
    let fonts = c.args.fonts.now in
    let index = c.args.inside.number in
    let font = c.index-fonts-index.result in
    let at : font_at fonts index ≡ Some font = font_there fonts index font (omega arith) (omega arith) c.index-fonts-index.is in
    or_some (tree_after (font_row c.args.table column index (font_at fonts index)) c.args.inside.rest)
    (first_from (λ i. tree_first (font_row c.args.table column i (font_at fonts i))) (index + 1) (length fonts + 1 - (index + 1))) index (end_binding column index font c.in-Some.end)
    (ap (λ f. tree_after (font_row c.args.table column index f) c.args.inside.rest) at ∙ sym (c.in-Some.ensures column index))

pub returns-in-None-clause-row : goal.returns-in-None-clause-row
returns-in-None-clause-row c = λ column.
    let fonts = c.args.fonts.now in
    let index = c.args.inside.number in
    let font = c.index-fonts-index.result in
    let at : font_at fonts index ≡ Some font = font_there fonts index font (omega arith) (omega arith) c.index-fonts-index.is in
    c.first_row.ensures.row column
    ∙ or_none (tree_after (font_row c.args.table column index (font_at fonts index)) c.args.inside.rest)
    (first_from (λ i. tree_first (font_row c.args.table column i (font_at fonts i))) (index + 1) (length fonts + 1 - (index + 1))) index
    (ap (λ f. tree_after (font_row c.args.table column index f) c.args.inside.rest) at ∙ sym (c.in-None.ensures column index))
