use Rattle.std.proofs.Common.{arith}
use Rattle.dms_wire.proofs.Promises.{octets_fit, is_heard, is_heard_spelled}
use Rattle.dms_wire.proofs.message.heard.Goals as goal

pub returns-clause-message : goal.returns-clause-message
returns-clause-message c = grind (arith, is_heard, octets_fit)

pub returns-clause-spelled : goal.returns-clause-spelled
returns-clause-spelled c = is_heard_spelled c.args.datagram.now c.read.result c.ok.result c.ok.ensures.value c.read.ensures.found
