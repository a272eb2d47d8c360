use Rattle.std.proofs.Common.{◌+◌, length, sym, ap, ◌∙◌, arith}
use Rattle.dms_device_fonts.specs.Tree.{tree_first}
use Rattle.dms_device_fonts.specs.Fonts.{font_row, font_at}
use Rattle.dms_device_fonts.specs.View.{end_binding}
use Rattle.dms_device_fonts.proofs.Spans.{none_at, some_at, none_left}
use Rattle.dms_device_fonts.proofs.Choices.{font_there}
use Rattle.dms_device_fonts.proofs.next.+first_row.Goals as goal

pub returns-then-index-fonts-clause-row : goal.returns-then-index-fonts-clause-row
returns-then-index-fonts-clause-row t c = λ column.
    sym (none_left (λ i. tree_first (font_row c.args.table column i (font_at c.args.fonts.now i))) c.args.index (length c.args.fonts.now + 1) (omega arith))

pub returns-in-Some-clause-row : goal.returns-in-Some-clause-row
returns-in-Some-clause-row t c = λ column.
    let fonts = c.args.fonts.now in
    let index = c.args.index in
    let at = font_there fonts index c.index-fonts-index.result (omega arith) (omega arith) c.index-fonts-index.is in
    sym (some_at (λ i. tree_first (font_row c.args.table column i (font_at fonts i))) index (length fonts + 1) (end_binding column index c.index-fonts-index.result c.in-Some.end) (omega arith)
    (ap (λ f. tree_first (font_row c.args.table column index f)) at ∙ sym (c.in-Some.ensures column index)))

pub returns-in-None-clause-row : goal.returns-in-None-clause-row
returns-in-None-clause-row t c = λ column.
    let fonts = c.args.fonts.now in
    let index = c.args.index in
    let at = font_there fonts index c.index-fonts-index.result (omega arith) (omega arith) c.index-fonts-index.is in
    c.first_row.ensures.row column
    ∙ sym (none_at (λ i. tree_first (font_row c.args.table column i (font_at fonts i))) index (length fonts + 1) (omega arith)
    (ap (λ f. tree_first (font_row c.args.table column index f)) at ∙ sym (c.in-None.ensures column index)))
