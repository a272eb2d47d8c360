use Rattle.std.proofs.Common.{rules, arith}
use Rattle.dms_wire.specs.View.{message_around}
use Rattle.dms_wire.proofs.Prefixes.{bindings_alone, are_kept, are_too_big}
use Rattle.dms_wire.proofs.message.write_around.Goals as goal

pub returns-then-octets : goal.returns-then-octets
returns-then-octets c = λ bindings is.
    let big = are_too_big _ _ _ bindings c.if-octets.true c.octets.view_is is in
    (search rules, omega (arith, big, bindings_alone (message_around c.args.header.now bindings)))

pub returns : goal.returns
returns c = λ bindings is.
    let are = are_kept _ _ _ bindings c.if-octets.false c.octets.view_is is in
    c.write_octets.ensures bindings (search (rules, are))
