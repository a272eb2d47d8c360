use Rattle.std.proofs.Common.{◌∙◌}
use Rattle.dms_device_fonts.specs.Tree.{under}
use Rattle.dms_device_fonts.specs.View.{side_value}
use Rattle.std.proofs.Common.{None}
use Rattle.dms_device_fonts.proofs.Nodes.{first_after, alike_value, alike_after, inside_after}
use Rattle.dms_device_fonts.proofs.steps.+place_under.Goals as goal

pub returns-in-First-clause-value : goal.returns-in-First-clause-value
returns-in-First-clause-value t c = λ tree.
    alike_value c.args.node.now c.in-Some.others.now c.args.numbers c.in-Some.first.now tree None c.in-Some.ensures.cases.0 (c.in-First.ensures.value (λ _. under c.in-Some.others.now tree))

pub returns-in-First-clause-after : goal.returns-in-First-clause-after
returns-in-First-clause-after t c = λ tree.
    first_after c.args.node.now c.in-Some.others.now c.args.numbers c.in-Some.first.now tree c.in-Some.ensures.cases.0 (c.in-First.ensures.after (λ _. under c.in-Some.others.now tree))

pub returns-in-Inside-clause-value : goal.returns-in-Inside-clause-value
returns-in-Inside-clause-value t c = λ tree.
    alike_value c.args.node.now c.in-Some.others.now c.args.numbers c.in-Some.first.now tree (side_value tree c.place_under.result) c.in-Some.ensures.cases.0
    (c.in-Inside.ensures.value (λ _. under c.in-Some.others.now tree) ∙ c.place_under.ensures.value tree)

pub returns-in-Inside-clause-after : goal.returns-in-Inside-clause-after
returns-in-Inside-clause-after t c = λ tree.
    inside_after c.args.node.now c.in-Some.others.now c.args.numbers c.in-Inside.below.rest c.in-Some.first.now c.in-Inside.below.number tree c.place_under.result c.in-Some.ensures.cases.0
    c.in-Inside.ensures.inside.0 c.in-Inside.ensures.inside.1 (c.in-Inside.ensures.after (λ _. under c.in-Some.others.now tree)) (c.place_under.ensures.after tree)

pub returns-in-Past-clause-value : goal.returns-in-Past-clause-value
returns-in-Past-clause-value t c = λ tree.
    alike_value c.args.node.now c.in-Some.others.now c.args.numbers c.in-Some.first.now tree None c.in-Some.ensures.cases.0 (c.in-Past.ensures.value (λ _. under c.in-Some.others.now tree))

pub returns-in-Past-clause-after : goal.returns-in-Past-clause-after
returns-in-Past-clause-after t c = λ tree.
    alike_after c.args.node.now c.in-Some.others.now c.args.numbers c.in-Some.first.now tree None c.in-Some.ensures.cases.0 (c.in-Past.ensures.after (λ _. under c.in-Some.others.now tree))
