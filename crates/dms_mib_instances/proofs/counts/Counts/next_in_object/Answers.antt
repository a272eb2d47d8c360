use Rattle.std.proofs.Common.{◌∷◌, sym, ap, ◌∙◌, arith}
use Rattle.dms_mib.specs.Names.{below_dms}
use Rattle.dms_mib_instances.specs.Objects.{next_instance}
use Rattle.dms_mib_instances.proofs.Beginnings.{small_first}
use Rattle.dms_mib_instances.proofs.Following.{is_table, no_table}
use Rattle.dms_mib_instances.proofs.Stops.{at_object, behind_object}
use Rattle.dms_mib_instances.proofs.counts.Counts.next_in_object.Goals as goal

pub returns-then-is_table : goal.returns-then-is_table
returns-then-is_table c = λ numbers e table has.
    let is = is_table c.args.group c.args.number (sym c.is_table.ensures ∙ c.if-is_table.true) in
    let group = small_first numbers 5 (8 ∷ c.args.octets.now)
    (e ∙ ap (λ k. k ∷ c.args.number ∷ c.args.octets.now) is.0 ∙ ap (λ k. 5 ∷ k ∷ c.args.octets.now) is.1) (omega arith) in
    let number = small_first group.0 8 c.args.octets.now group.2 (omega arith) in
    c.next_in_table.ensures number.0 number.2 table has
    ∙ ap (λ ns. next_instance table (below_dms ns)) (ap (λ ns. 5 ∷ ns) (sym number.1) ∙ sym group.1)

pub returns-in-Some : goal.returns-in-Some
returns-in-Some c = λ numbers e table has.
    c.from_object.ensures table has
    ∙ behind_object table c.args.self.now has numbers c.args.group c.args.number c.number_after.result c.in-Some.field-0.0 c.in-Some.field-0.1.now
    (e ∙ ap (λ ns. c.args.group ∷ c.args.number ∷ ns) c.in-Some.ensures.some) c.number_after.ensures.few c.number_after.ensures.many
    (no_table c.args.group c.args.number (sym c.is_table.ensures ∙ c.if-is_table.false))

pub returns-in-None : goal.returns-in-None
returns-in-None c = λ numbers e table has.
    c.from_object-in-None.ensures table has
    ∙ at_object table c.args.self.now has numbers c.args.group c.args.number (e ∙ ap (λ ns. c.args.group ∷ c.args.number ∷ ns) c.in-None.ensures.none)
