use Rattle.std.proofs.Common.{rules, refl, map}
use Rattle.dms_wire.specs.View.{var_bind, snmp_message_of_parts}
use Rattle.dms_wire.proofs.Prefixes.{computed, completed, bindings_alone, header_of}
use Rattle.dms_wire.proofs.message.write_many.Goals as goal

pub returns-in_err-size : goal.returns-in_err-size
returns-in_err-size c =
    let h = bindings_alone (snmp_message_of_parts c.args.parts.now) in
    search (rules, h)

pub returns-in_err-begin : goal.returns-in_err-begin
returns-in_err-begin c =
    let h = computed (header_of c.args.parts.now) (map var_bind c.args.parts.now.binds.now) _ refl in
    search (rules, h)

pub returns : goal.returns
returns c =
    let h = computed (header_of c.args.parts.now) (map var_bind c.args.parts.now.binds.now) _ refl in
    let p = completed (header_of c.args.parts.now) (map var_bind c.args.parts.now.binds.now) _ refl in
    search (rules, h, p)
