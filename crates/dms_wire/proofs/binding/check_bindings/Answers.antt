use Rattle.std.proofs.Common.{arith, rules}
use Rattle.dms_wire.proofs.Bindings.{rest_more, rest_fault, rest_done}
use Rattle.dms_wire.proofs.binding.check_bindings.Goals as goal

pub returns-in_err-rest : goal.returns-in_err-rest
returns-in_err-rest c = grind (arith, rest_fault)

pub loop-rest-preserved : goal.loop-rest-preserved
loop-rest-preserved c = grind (arith, rest_more)

pub returns : goal.returns
returns c = rest_done c.args.end c.args.octets.now c.loop-rest.rest.now (search rules) c.loop-rest.invariant.1
