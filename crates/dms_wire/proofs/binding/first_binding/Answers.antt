use Rattle.std.proofs.Common.{arith}
use Rattle.dms_wire.specs.View.{var_bind}
use Rattle.dms_wire.proofs.Bindings.{walk_more, known_first, binding_joined, whole_more, no_first}
use Rattle.dms_wire.proofs.binding.first_binding.Goals as goal

pub returns-in_default-clause-none : goal.returns-in_default-clause-none
returns-in_default-clause-none c = no_first c.args.octets.now _ c.in_default.ensures.exact

pub known_members-requires-clause-known : goal.known_members-requires-clause-known
known_members-requires-clause-known c = grind (arith, known_first)

pub returns-clause-some : goal.returns-clause-some
returns-clause-some c =
    walk_more c.args.octets.now c.in-Ok.rest.now _
    (binding_joined _ c.args.octets.now _ _ c.in-Ok.ensures.exact (rw (← c.offset_of.ensures) c.in_ok-bind.ensures.some))

pub returns-clause-whole : goal.returns-clause-whole
returns-clause-whole c =
    whole_more c.args.octets.now c.in-Ok.rest.now (var_bind c.in_ok-bind.bind) c.requires
    (binding_joined _ c.args.octets.now _ _ c.in-Ok.ensures.exact (rw (← c.offset_of.ensures) c.in_ok-bind.ensures.some))
