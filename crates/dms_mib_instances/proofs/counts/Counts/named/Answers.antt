use Rattle.std.proofs.Common.{◌≡◌, Some, None, ap, sym, subst, ◌∙◌, List, ℕ}
use Rattle.std.specs.Cmp.Lexicographic.{bytes_decides}
use Rattle.std.proofs.lemmas.Bool.{both_ways}
use Rattle.std.proofs.lemmas.Option.{same_Some}
use Rattle.dms_mib.specs.Names.{name_of}
use Rattle.dms_mib_instances.specs.Objects.{instance_named, IsInstance}
use Rattle.dms_mib_instances.specs.NameReading.{IsFoundBy}
use Rattle.dms_mib_instances.proofs.InOrder.{named_back}
use Rattle.dms_mib_instances.proofs.NamesFound.{there_found, none_named}
use Rattle.dms_mib_instances.proofs.counts.Counts.named.Goals as goal

pub returns-in_err-instance : goal.returns-in_err-instance
returns-in_err-instance c = λ table has.
    let found = subst (λ (octets : List ℕ). IsFoundBy octets None) c.content.ensures c.in_err-instance.ensures.found in
    c.from_residual.ensures ∙ none_named table c.args.name.now λ i there e.
    let none : None ≡ Some i =
    there_found table c.args.self.now c.args.name.now None has c.are_octets.ensures found i there e in
    absurd (cc)

pub returns-then-has : goal.returns-then-has
returns-then-has c = λ table has.
    sym (ap (instance_named table) (sym ((bytes_decides (name_of c.in_ok-instance.instance) c.args.name.now).0 c.known_by_octets.ensures))
    ∙ named_back table c.in_ok-instance.instance (c.has.ensures.is c.if-has.true table has))

pub returns-else-has : goal.returns-else-has
returns-else-has c = λ table has.
    let found = subst (λ (octets : List ℕ). IsFoundBy octets (Some c.in_ok-instance.instance)) c.content.ensures c.in_ok-instance.ensures.found in
    none_named table c.args.name.now λ i there e.
    let same =
    same_Some c.in_ok-instance.instance i
    (there_found table c.args.self.now c.args.name.now (Some c.in_ok-instance.instance) has c.are_octets.ensures found i there e)
    in
    both_ways c.has.result c.if-has.false (c.has.ensures.each table has (subst (IsInstance table) (sym same) there))
