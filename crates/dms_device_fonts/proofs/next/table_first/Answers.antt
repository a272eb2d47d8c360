use Rattle.std.proofs.Common.{◌≡◌, ◌+◌, ◌-◌, sym, ap, ◌∙◌, arith}
use Rattle.std.specs.Prelude.{option_map}
use Rattle.dms_device_fonts.specs.Tree.{tree_first, first_from, below}
use Rattle.dms_device_fonts.specs.Fonts.{column_cells, column_count}
use Rattle.dms_device_fonts.proofs.Nodes.{only_one}
use Rattle.dms_device_fonts.proofs.Choices.{cells_below}
use Rattle.dms_device_fonts.proofs.next.table_first.Goals as goal

pub returns-clause-cell : goal.returns-clause-cell
returns-clause-cell c =
    let cells = column_cells c.args.table c.args.fonts.now in
    let count : column_count c.args.table + 1 - 1 ≡ column_count c.args.table = omega arith in
    cells_below c.first_cell.result
    ∙ ap (option_map (below 1)) (c.first_cell.ensures.cell ∙ ap (first_from (λ k. tree_first (cells k)) 1) count)
    ∙ sym (only_one (option_map (below 1) (first_from (λ k. tree_first (cells k)) 1 (column_count c.args.table))))
