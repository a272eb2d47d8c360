use Rattle.std.proofs.Common.{[], ◌∷◌, sym, ◌∙◌, arith}
use Rattle.dms_mib_instances.proofs.Following.{table_first, no_table, found_object, next_number, next_group, past_groups}
use Rattle.dms_mib_instances.proofs.counts.Counts.from_object.Goals as goal

pub returns-then-is_table : goal.returns-then-is_table
returns-then-is_table c = λ table has.
    c.first_of.ensures table has
    ∙ sym (table_first table c.args.self.now has c.loop-group.group c.loop-group.number (sym c.is_table.ensures ∙ c.if-is_table.true))
    ∙ c.loop-group.invariant table has

pub returns-in-Some : goal.returns-in-Some
returns-in-Some c = λ table has.
    sym (found_object table c.args.self.now has c.loop-group.group c.loop-group.number c.in-Some.object c.in-Some.ensures.named)
    ∙ c.loop-group.invariant table has

pub loop-group-preserved-then-number-last_object :
    goal.loop-group-preserved-then-number-last_object
loop-group-preserved-then-number-last_object c = λ table has.
    let other = no_table c.loop-group.group c.loop-group.number (sym c.is_table.ensures ∙ c.if-is_table.false) in
    sym (next_number table c.args.self.now has c.loop-group.group c.loop-group.number (sym c.in_default.ensures.found) other)
    ∙ c.loop-group.invariant table has

pub loop-group-preserved : goal.loop-group-preserved
loop-group-preserved c = λ table has.
    let other = no_table c.loop-group.group c.loop-group.number (sym c.is_table.ensures ∙ c.if-is_table.false) in
    sym (next_group table c.args.self.now has c.loop-group.group c.loop-group.number (sym c.in_default.ensures.found) other λ object is.
    omega (arith, c.last_object.ensures object is, c.if-number-last_object.false))
    ∙ c.loop-group.invariant table has

pub returns : goal.returns
returns c = λ table has.
    past_groups table c.loop-group.group (c.loop-group.number ∷ []) (omega (arith, c.loop-group-test.false)) ∙ c.loop-group.invariant table has
