use Rattle.std.proofs.Common.{ap, sym, ◌∙◌}
use Rattle.std.specs.Prelude.{option_map}
use Rattle.dms_wire.specs.View.{object_value}
use Rattle.dms_device_fonts.specs.Tree.{Span, tree_value}
use Rattle.dms_device_fonts.specs.Fonts.{column_cells, column_count}
use Rattle.dms_device_fonts.proofs.reading.read_table.Goals as goal

pub returns-in_err-entry : goal.returns-in_err-entry
returns-in_err-entry c =
    ap (option_map object_value) c.from_residual.ensures
    ∙ sym (c.in_err-entry.ensures.value (λ _. Span 1 (column_count c.args.table) (column_cells c.args.table c.args.fonts.now)))

pub returns-in_err-column : goal.returns-in_err-column
returns-in_err-column c =
    let at = column_cells c.args.table c.args.fonts.now in
    ap (option_map object_value) c.from_residual-in_err-column.ensures
    ∙ sym (c.in_ok-entry.ensures.value (λ _. Span 1 (column_count c.args.table) at)
    ∙ ap (λ n. tree_value (Span 1 n at) c.in_ok-entry.entry.rest) (sym c.column_count.ensures.value) ∙ c.in_err-column.ensures.value at)

pub returns : goal.returns
returns c =
    let at = column_cells c.args.table c.args.fonts.now in
    c.read_column.ensures
    ∙ sym (c.in_ok-entry.ensures.value (λ _. Span 1 (column_count c.args.table) at)
    ∙ ap (λ n. tree_value (Span 1 n at) c.in_ok-entry.entry.rest) (sym c.column_count.ensures.value) ∙ c.in_ok-column.ensures.value at)
