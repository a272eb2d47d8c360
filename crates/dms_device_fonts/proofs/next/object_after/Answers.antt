use Rattle.std.proofs.Common.{◌+◌, Some, sym, ap, ◌∙◌, arith}
use Rattle.std.specs.Prelude.{option_map}
use Rattle.dms_device_fonts.specs.Tree.{Leaf, tree_first, tree_after, below}
use Rattle.dms_device_fonts.specs.Fonts.{object_of, scalar_value}
use Rattle.dms_device_fonts.proofs.Spans.{none_left}
use Rattle.dms_device_fonts.proofs.next.object_after.Goals as goal

pub returns-in-Some-clause-place : goal.returns-in-Some-clause-place
returns-in-Some-clause-place c =
    c.in_table.ensures.place c.args.fonts.now
    ∙ ap (option_map (below c.args.number)) (c.table_after.ensures.cell ∙ ap (λ t. tree_after (object_of c.args.fonts.now c.args.number t) c.args.numbers) c.in-Some.ensures)

pub returns-in-Some-clause-within : goal.returns-in-Some-clause-within
returns-in-Some-clause-within c = c.in_table.ensures.within c.args.fonts.now c.table_after.ensures.within

pub returns-in-First-clause-place : goal.returns-in-First-clause-place
returns-in-First-clause-place c =
    ap (option_map (below c.args.number)) (sym (c.in-First.ensures.after (λ _. Leaf (Some (scalar_value c.args.fonts.now c.args.number)))))
    ∙ ap (λ t. option_map (below c.args.number) (tree_after (object_of c.args.fonts.now c.args.number t) c.args.numbers)) c.in-None.ensures

pub returns-in-Inside-clause-place : goal.returns-in-Inside-clause-place
returns-in-Inside-clause-place c =
    let leaf = Leaf (Some (scalar_value c.args.fonts.now c.args.number)) in
    let k = c.in-Inside.field-0.number in
    ap (option_map (below c.args.number)) (sym (c.in-Inside.ensures.after (λ _. leaf) ∙ none_left (λ _. tree_first leaf) (k + 1) 1 (omega arith)))
    ∙ ap (λ t. option_map (below c.args.number) (tree_after (object_of c.args.fonts.now c.args.number t) c.args.numbers)) c.in-None.ensures

pub returns-in-Past-clause-place : goal.returns-in-Past-clause-place
returns-in-Past-clause-place c =
    ap (option_map (below c.args.number)) (sym (c.in-Past.ensures.after (λ _. Leaf (Some (scalar_value c.args.fonts.now c.args.number)))))
    ∙ ap (λ t. option_map (below c.args.number) (tree_after (object_of c.args.fonts.now c.args.number t) c.args.numbers)) c.in-None.ensures
