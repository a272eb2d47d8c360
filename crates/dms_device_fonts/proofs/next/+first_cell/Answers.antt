use Rattle.std.proofs.Common.{◌≡◌, ◌+◌, ◌-◌, length, sym, ap, ◌∙◌, arith}
use Rattle.dms_device_fonts.specs.Tree.{tree_first, first_from}
use Rattle.dms_device_fonts.specs.Fonts.{font_row, font_at, column_cells, column_count}
use Rattle.dms_device_fonts.specs.View.{row_binding}
use Rattle.dms_device_fonts.proofs.Spans.{none_at, some_at, none_left}
use Rattle.dms_device_fonts.proofs.next.+first_cell.Goals as goal

pub returns-then-column-column_count-clause-cell : goal.returns-then-column-column_count-clause-cell
returns-then-column-column_count-clause-cell t c =
    sym (none_left (λ k. tree_first (column_cells c.args.table c.args.fonts.now k)) c.args.column (column_count c.args.table + 1) (omega arith))

pub returns-in-Some-clause-cell : goal.returns-in-Some-clause-cell
returns-in-Some-clause-cell t c =
    let fonts = c.args.fonts.now in
    let column = c.args.column in
    let count : length fonts + 1 - 1 ≡ length fonts = omega arith in
    sym (some_at (λ k. tree_first (column_cells c.args.table fonts k)) column (column_count c.args.table + 1) (row_binding column c.in-Some.row) (omega arith)
    (sym (c.in-Some.ensures.row column ∙ ap (first_from (λ i. tree_first (font_row c.args.table column i (font_at fonts i))) 1) count)))

pub returns-in-Some-clause-within : goal.returns-in-Some-clause-within
returns-in-Some-clause-within t c = record { column = omega arith; index = c.in-Some.ensures.within }

pub returns-in-None-clause-cell : goal.returns-in-None-clause-cell
returns-in-None-clause-cell t c =
    let fonts = c.args.fonts.now in
    let column = c.args.column in
    let count : length fonts + 1 - 1 ≡ length fonts = omega arith in
    c.first_cell.ensures.cell
    ∙ sym (none_at (λ k. tree_first (column_cells c.args.table fonts k)) column (column_count c.args.table + 1) (omega arith)
    (sym (c.in-None.ensures.row column ∙ ap (first_from (λ i. tree_first (font_row c.args.table column i (font_at fonts i))) 1) count)))
