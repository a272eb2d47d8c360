use Rattle.std.proofs.Common.{rules}
use Rattle.dms_wire.proofs.Prefixes.{computed, completed}
use Rattle.dms_wire.proofs.message.write_octets.Goals as goal

pub returns-in_err-begin : goal.returns-in_err-begin
returns-in_err-begin c = λ bindings is.
    let h = computed c.args.header.now bindings c.args.octets.now is in
    search (rules, h)

pub returns : goal.returns
returns c = λ bindings is.
    let h = computed c.args.header.now bindings c.args.octets.now is in
    let p = completed c.args.header.now bindings c.args.octets.now is in
    search (rules, h, p)
