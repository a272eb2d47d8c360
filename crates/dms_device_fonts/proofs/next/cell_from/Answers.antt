use Rattle.std.proofs.Common.{◌+◌, ◌-◌, sym, ◌∙◌, arith}
use Rattle.dms_device_fonts.specs.Tree.{tree_first, tree_after, first_from}
use Rattle.dms_device_fonts.specs.Fonts.{column_cells, column_count}
use Rattle.dms_device_fonts.specs.View.{row_binding}
use Rattle.dms_device_fonts.proofs.Choices.{or_some, or_none}
use Rattle.dms_device_fonts.proofs.next.cell_from.Goals as goal

pub returns-in-Some-clause-cell : goal.returns-in-Some-clause-cell
returns-in-Some-clause-cell c =
    or_some (tree_after (column_cells c.args.table c.args.fonts.now c.args.inside.number) c.args.inside.rest)
    (first_from (λ k. tree_first (column_cells c.args.table c.args.fonts.now k)) (c.args.inside.number + 1) (column_count c.args.table + 1 - (c.args.inside.number + 1))) c.args.inside.number
    (row_binding c.args.inside.number c.in-Some.row) (sym (c.in-Some.ensures.row c.args.inside.number))

pub returns-in-Some-clause-within : goal.returns-in-Some-clause-within
returns-in-Some-clause-within c = record { column = omega arith; index = c.in-Some.ensures.within }

pub returns-in-None-clause-cell : goal.returns-in-None-clause-cell
returns-in-None-clause-cell c =
    c.first_cell.ensures.cell
    ∙ or_none (tree_after (column_cells c.args.table c.args.fonts.now c.args.inside.number) c.args.inside.rest)
    (first_from (λ k. tree_first (column_cells c.args.table c.args.fonts.now k)) (c.args.inside.number + 1) (column_count c.args.table + 1 - (c.args.inside.number + 1))) c.args.inside.number
    (sym (c.in-None.ensures.row c.args.inside.number))
