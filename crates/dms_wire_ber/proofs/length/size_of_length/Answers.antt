use Rattle.std.proofs.Common.{arith, sym}
use Rattle.dms_wire_ber.proofs.Shortest.{length_two, length_three}
use Rattle.dms_wire_ber.proofs.length.size_of_length.Goals as goal

pub returns-in-128-to-255-clause-exact : goal.returns-in-128-to-255-clause-exact
returns-in-128-to-255-clause-exact c = sym (length_two c.args.size (omega arith) (omega arith))

pub returns-in-256-to-65535-clause-exact : goal.returns-in-256-to-65535-clause-exact
returns-in-256-to-65535-clause-exact c = sym (length_three c.args.size (omega arith) (omega arith))
