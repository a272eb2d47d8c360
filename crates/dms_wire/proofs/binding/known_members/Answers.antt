use Rattle.std.proofs.Common.{arith}
use Rattle.dms_wire_ber.proofs.Elements.{not_ok}
use Rattle.dms_wire.proofs.Bindings.{known_name, known_value, known_members_are, some_element}
use Rattle.dms_wire.proofs.binding.known_members.Goals as goal

pub returns-in_default-clause-always : goal.returns-in_default-clause-always
returns-in_default-clause-always c = grind (arith, some_element)

pub returns-in_default-read_value-clause-always : goal.returns-in_default-read_value-clause-always
returns-in_default-read_value-clause-always c =
    let known = known_value c.args.end c.args.octets.now c.requires.known.0 _ _ c.requires.known.1 c.in-Ok.ensures.exact c.in_default-read_value.ensures.exact in
    not_ok _ _ known.1

pub known-requires : goal.known-requires
known-requires c = (c.requires.known.0.name, known_name c.args.end c.args.octets.now c.requires.known.0 _ c.requires.known.1 c.in-Ok.ensures.exact)

pub returns-clause-some : goal.returns-clause-some
returns-clause-some c =
    let name = known_name c.args.end c.args.octets.now c.requires.known.0 _ c.requires.known.1 c.in-Ok.ensures.exact in
    known_members_are c.args.end c.args.octets.now c.requires.known.0 _ _ _ _ c.requires.known.1 c.in-Ok.ensures.exact c.in-Ok-read_value.ensures.exact
    (c.known.ensures c.requires.known.0.name name)
