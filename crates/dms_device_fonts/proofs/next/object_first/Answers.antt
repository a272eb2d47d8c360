use Rattle.std.proofs.Common.{ap, ◌∙◌}
use Rattle.std.specs.Prelude.{option_map}
use Rattle.dms_device_fonts.specs.Tree.{tree_first, below}
use Rattle.dms_device_fonts.specs.Fonts.{object_of}
use Rattle.dms_device_fonts.proofs.next.object_first.Goals as goal

pub returns-in-Some-clause-place : goal.returns-in-Some-clause-place
returns-in-Some-clause-place c =
    c.in_table.ensures.place c.args.fonts.now
    ∙ ap (option_map (below c.args.number)) (c.table_first.ensures.cell ∙ ap (λ t. tree_first (object_of c.args.fonts.now c.args.number t)) c.in-Some.ensures)

pub returns-in-Some-clause-within : goal.returns-in-Some-clause-within
returns-in-Some-clause-within c = c.in_table.ensures.within c.args.fonts.now c.table_first.ensures.within

pub returns-in-None-clause-place : goal.returns-in-None-clause-place
returns-in-None-clause-place c = ap (λ t. option_map (below c.args.number) (tree_first (object_of c.args.fonts.now c.args.number t))) c.in-None.ensures
