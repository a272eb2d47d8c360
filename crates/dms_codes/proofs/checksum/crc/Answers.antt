use Rattle.std.proofs.Common.{ℕ, List, take_all, flat_map, subst, arith}
use Rattle.dms_codes.specs.Checksum.{octet_bits}
use Rattle.dms_codes.specs.Register.{TakesIn}
use Rattle.dms_codes.proofs.Division.{takes_more, message_checksum_is}
use Rattle.dms_codes.proofs.Eights.{takes_eight_more}
use Rattle.dms_codes.proofs.checksum.crc.Goals as goal

pub loop-rest-preserved : goal.loop-rest-preserved
loop-rest-preserved c = λ after takes.
    c.loop-rest.invariant after
    (takes_eight_more c.loop-rest.rest.now c.loop-rest.register c.register_after_eight-register.result after c.in-len8-up.len_at_least
    c.register_after_eight-register.ensures takes)

pub loop-octet-preserved : goal.loop-octet-preserved
loop-octet-preserved c = grind (arith, takes_more)

pub returns : goal.returns
returns c =
    let rest = c.loop-rest.rest.now in
    let last = subst (λ (octets : List ℕ). TakesIn (flat_map octet_bits octets) c.loop-rest.register c.loop-octet.register) (take_all c.loop-octet.octet-index rest c.loop-octet-test.false) c.loop-octet.invariant in
    message_checksum_is c.args.text.now c.args.beacon c.args.pixel c.loop-octet.register c.register_after.result c.register_after-2.result
    (omega arith) (c.loop-rest.invariant c.loop-octet.register last) c.register_after.ensures c.register_after-2.ensures
