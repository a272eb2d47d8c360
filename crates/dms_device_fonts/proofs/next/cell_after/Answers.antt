use Rattle.std.proofs.Common.{◌≡◌, ◌+◌, ◌-◌, None, sym, ap, subst, ◌∙◌, arith}
use Rattle.std.specs.Prelude.{option_map}
use Rattle.dms_device_fonts.specs.Tree.{Span, tree_first, tree_after, first_from, or_first, below}
use Rattle.dms_device_fonts.specs.Fonts.{column_cells, column_count}
use Rattle.dms_device_fonts.proofs.next.cell_after.Goals as goal

pub returns-in-First-clause-cell : goal.returns-in-First-clause-cell
returns-in-First-clause-cell c =
    let cells = column_cells c.args.table c.args.fonts.now in
    let count : column_count c.args.table + 1 - 1 ≡ column_count c.args.table = omega arith in
    c.first_cell.ensures.cell ∙ ap (first_from (λ k. tree_first (cells k)) 1) count
    ∙ sym (subst (λ n. tree_after (Span 1 n cells) c.args.numbers ≡ first_from (λ k. tree_first (cells k)) 1 n) c.column_count.ensures.value (c.in-First.ensures.after cells))

pub returns-in-Inside-clause-cell : goal.returns-in-Inside-clause-cell
returns-in-Inside-clause-cell c =
    let cells = column_cells c.args.table c.args.fonts.now in
    let number = c.in-Inside.below.number in
    let rest = c.in-Inside.below.rest in
    let count : column_count c.args.table + 1 - (number + 1) ≡ 1 + column_count c.args.table - (number + 1) = omega arith in
    c.cell_from.ensures.cell
    ∙ ap (λ n. or_first (option_map (below number) (tree_after (cells number) rest)) (first_from (λ k. tree_first (cells k)) (number + 1) n)) count
    ∙ sym (subst (λ n. tree_after (Span 1 n cells) c.args.numbers
    ≡ or_first (option_map (below number) (tree_after (cells number) rest)) (first_from (λ k. tree_first (cells k)) (number + 1) (1 + n - (number + 1))))
    c.column_count.ensures.value (c.in-Inside.ensures.after cells))

pub returns-in-Past-clause-cell : goal.returns-in-Past-clause-cell
returns-in-Past-clause-cell c =
    let cells = column_cells c.args.table c.args.fonts.now in
    sym (subst (λ n. tree_after (Span 1 n cells) c.args.numbers ≡ None) c.column_count.ensures.value (c.in-Past.ensures.after cells))
