use Rattle.std.proofs.Common.{◌∷◌, sym, ap, ◌∙◌, arith}
use Rattle.dms_mib.specs.Names.{below_dms}
use Rattle.dms_mib_instances.specs.Objects.{next_instance}
use Rattle.dms_mib_instances.proofs.Beginnings.{small_first}
use Rattle.dms_mib_instances.proofs.Cells.{column_to}
use Rattle.dms_mib_instances.proofs.Stops.{at_entry, before_columns, behind_columns}
use Rattle.dms_mib_instances.proofs.counts.Counts.next_in_entry.Goals as goal

pub returns-in_default : goal.returns-in_default
returns-in_default c = λ numbers e table has.
    c.from_object.ensures table has ∙ at_entry table c.args.self.now has numbers (e ∙ c.in_default.ensures.none)

pub returns-in-Some-column_of : goal.returns-in-Some-column_of
returns-in-Some-column_of c = λ numbers e table has.
    let few = column_to c.in-Some-column_of.column in
    let first = small_first numbers c.in-Some.number c.in-Some.rest.now (e ∙ c.in-Some.ensures.some) (omega (arith, few, c.in-Some-column_of.ensures.named)) in
    c.next_in_column.ensures first.0 first.2 table has
    ∙ ap (λ k. next_instance table (below_dms (5 ∷ 8 ∷ 1 ∷ k ∷ first.0))) c.in-Some-column_of.ensures.named
    ∙ ap (λ ns. next_instance table (below_dms (5 ∷ 8 ∷ 1 ∷ ns))) (sym first.1)

pub returns-then-number-eq0 : goal.returns-then-number-eq0
returns-then-number-eq0 c = λ numbers e table has.
    c.from_object-then-number-eq0.ensures table has
    ∙ before_columns table c.args.self.now has numbers c.in-Some.number c.in-Some.rest.now (e ∙ c.in-Some.ensures.some) c.if-number-eq0.true

pub returns-else-number-eq0 : goal.returns-else-number-eq0
returns-else-number-eq0 c = λ numbers e table has.
    c.from_object-else-number-eq0.ensures table has
    ∙ behind_columns table c.args.self.now has numbers c.in-Some.number c.in-Some.rest.now (e ∙ c.in-Some.ensures.some)
    (sym c.in-None.ensures.found) (omega (arith, c.if-number-eq0.false))
