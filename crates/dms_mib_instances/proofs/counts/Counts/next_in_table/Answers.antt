use Rattle.std.proofs.Common.{◌∷◌, sym, ap, ◌∙◌, arith}
use Rattle.dms_mib.specs.Names.{below_dms}
use Rattle.dms_mib_instances.specs.Objects.{next_instance}
use Rattle.dms_mib_instances.proofs.Beginnings.{small_first}
use Rattle.dms_mib_instances.proofs.Stops.{at_table, before_entry, behind_entry}
use Rattle.dms_mib_instances.proofs.counts.Counts.next_in_table.Goals as goal

pub returns-in-None : goal.returns-in-None
returns-in-None c = λ numbers e table has.
    c.from_object-in-None.ensures table has ∙ at_table table c.args.self.now has numbers (e ∙ c.in-None.ensures.none)

pub returns-then-entry-eq1 : goal.returns-then-entry-eq1
returns-then-entry-eq1 c = λ numbers e table has.
    let first =
    small_first numbers 1 c.in-Some.rest.now (e ∙ c.in-Some.ensures.some ∙ ap (λ k. k ∷ c.in-Some.rest.now) c.if-entry-eq1.true) (omega arith) in
    c.next_in_entry.ensures first.0 first.2 table has ∙ ap (λ ns. next_instance table (below_dms (5 ∷ 8 ∷ ns))) (sym first.1)

pub returns-then-entry-eq0 : goal.returns-then-entry-eq0
returns-then-entry-eq0 c = λ numbers e table has.
    c.from_object.ensures table has
    ∙ before_entry table c.args.self.now has numbers c.in-Some.rest.now (e ∙ c.in-Some.ensures.some ∙ ap (λ k. k ∷ c.in-Some.rest.now) c.if-entry-eq0.true)

pub returns-else-entry-eq0 : goal.returns-else-entry-eq0
returns-else-entry-eq0 c = λ numbers e table has.
    c.from_object-else-entry-eq0.ensures table has
    ∙ behind_entry table c.args.self.now has numbers c.in-Some.entry c.in-Some.rest.now (e ∙ c.in-Some.ensures.some)
    (omega (arith, c.if-entry-eq1.false, c.if-entry-eq0.false))
