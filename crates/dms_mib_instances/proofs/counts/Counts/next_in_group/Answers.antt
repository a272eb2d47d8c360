use Rattle.std.proofs.Common.{◌∷◌, ap, ◌∙◌}
use Rattle.dms_mib_instances.proofs.Stops.{at_group}
use Rattle.dms_mib_instances.proofs.counts.Counts.next_in_group.Goals as goal

pub returns-in-Some : goal.returns-in-Some
returns-in-Some c = λ numbers e table has.
    c.next_in_object.ensures numbers (e ∙ ap (λ ns. c.args.group ∷ ns) c.in-Some.ensures.some) table has

pub returns-in-None : goal.returns-in-None
returns-in-None c = λ numbers e table has.
    c.from_object.ensures table has
    ∙ at_group table c.args.self.now has numbers c.args.group (e ∙ ap (λ ns. c.args.group ∷ ns) c.in-None.ensures.none)
