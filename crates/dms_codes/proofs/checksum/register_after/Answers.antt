use Rattle.std.proofs.Common.{arith, ◌∙◌, ap, bit_and, bit_xor}
use Rattle.std.proofs.lemmas.Nat.{and_mask}
use Rattle.dms_codes.proofs.Remainders.{takes_octet}
use Rattle.dms_codes.proofs.checksum.register_after.Goals as goal

pub returns : goal.returns
returns c =
    let sum = bit_xor c.args.register c.args.octet in
    takes_octet c.args.register c.args.octet c.from-2.result (omega arith)
    (c.from-2.ensures ∙ ap (λ octet. bit_and (bit_xor c.args.register octet) 255) c.from.ensures ∙ and_mask sum 8)
