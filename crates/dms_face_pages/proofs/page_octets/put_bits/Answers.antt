use Rattle.std.proofs.Common.{◌∙◌, ◌<◌, ◌*◌, length, slice_set, ap, arith}
use Rattle.dms_face_pages.specs.PageOctets.{eight_bits}
use Rattle.dms_face_pages.proofs.Filled.{filled_more}
use Rattle.dms_face_pages.proofs.page_octets.put_bits.Goals as goal

pub loop-k-preserved : goal.loop-k-preserved
loop-k-preserved c =
    let inside : c.loop-k.k < length c.args.bits.now = omega (arith, c.loop-k-test.true, c.div_ceil-k-end.ensures, c.requires) in
    ap (λ octet. slice_set c.loop-k.bits c.loop-k.k octet) c.eight_bits.ensures
    ∙ filled_more (λ k. eight_bits c.args.looks.now (8 * k)) c.loop-k.k c.args.bits.now c.loop-k.bits inside c.loop-k.invariant
