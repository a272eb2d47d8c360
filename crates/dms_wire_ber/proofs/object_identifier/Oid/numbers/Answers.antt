use Rattle.dms_wire_ber.proofs.NameWalk.{fits}
use Rattle.dms_wire_ber.proofs.NameLimits.{name_within}
use Rattle.dms_wire_ber.proofs.Names.{name_found}
use Rattle.dms_wire_ber.specs.ObjectIdentifier.{IsNameInLimits}
use Rattle.dms_wire_ber.specs.NameReading.{numbers_of}
use Rattle.std.proofs.Common.{subst}
use Rattle.dms_wire_ber.proofs.object_identifier.Oid.numbers.Goals as goal

pub invariant_of-result : goal.invariant_of-result
invariant_of-result c = fits c.self.inside.content.now 0 0 c.self.invariant

pub returns-clause-in_limits : goal.returns-clause-in_limits
returns-clause-in_limits c =
    let content = c.self.inside.content.now in
    subst IsNameInLimits c.self.view_is (name_within (numbers_of content) content (name_found content c.self.invariant))
