use Rattle.std.proofs.Common.{arith, rules, length-append}
use Rattle.dms_wire_ber.proofs.Shortest.{natural_one, natural_one_size}
use Rattle.dms_wire_ber.proofs.integer.put_small_naturals.Goals as goal

pub put_content-requires : goal.put_content-requires
put_content-requires c = grind (arith, length-append, natural_one_size)

pub returns : goal.returns
returns c = rw (natural_one 2 c.args.first c.requires.first, natural_one 2 c.args.second c.requires.second) (search rules)
