use Rattle.std.proofs.Common.{◌≡◌, ◌+◌, sym, ap, ◌∙◌, arith}
use Rattle.std.specs.Prelude.{option_map}
use Rattle.dms_device_fonts.specs.Tree.{Span, tree_first, tree_after, or_first, below}
use Rattle.dms_device_fonts.specs.Fonts.{column_cells, column_count}
use Rattle.dms_device_fonts.proofs.Nodes.{only_one}
use Rattle.dms_device_fonts.proofs.Spans.{none_left}
use Rattle.dms_device_fonts.proofs.Choices.{cells_below}
use Rattle.dms_device_fonts.proofs.next.table_after.Goals as goal

pub returns-in-First-clause-cell : goal.returns-in-First-clause-cell
returns-in-First-clause-cell c =
    c.table_first.ensures.cell ∙ sym (c.in-First.ensures.after (λ _. Span 1 (column_count c.args.table) (column_cells c.args.table c.args.fonts.now)))

pub returns-in-Inside-clause-cell : goal.returns-in-Inside-clause-cell
returns-in-Inside-clause-cell c =
    let entry = Span 1 (column_count c.args.table) (column_cells c.args.table c.args.fonts.now) in
    let number = c.in-Inside.below.number in
    let rest = c.in-Inside.below.rest in
    let same : number ≡ 1 = omega (arith, c.in-Inside.ensures.inside.0, c.in-Inside.ensures.inside.1) in
    cells_below c.cell_after.result ∙ ap (option_map (below 1)) c.cell_after.ensures.cell
    ∙ sym (c.in-Inside.ensures.after (λ _. entry)
    ∙ ap (or_first (option_map (below number) (tree_after entry rest))) (none_left (λ _. tree_first entry) (number + 1) 2 (omega (arith, same)))
    ∙ only_one (option_map (below number) (tree_after entry rest))
    ∙ ap (λ n. option_map (below n) (tree_after entry rest)) same)

pub returns-in-Past-clause-cell : goal.returns-in-Past-clause-cell
returns-in-Past-clause-cell c = sym (c.in-Past.ensures.after (λ _. Span 1 (column_count c.args.table) (column_cells c.args.table c.args.fonts.now)))
