use Rattle.std.proofs.Common.{◌+◌, ◌-◌, ap, ◌∙◌, arith}
use borrow.Rule.Slice.PartMut.{put_mid}
use Rattle.dms_text_filling.proofs.Laid.{laid_beyond, laid_within}
use Rattle.dms_text_filling.proofs.filling.put_within.Goals as goal

pub returns-then-place-buffer : goal.returns-then-place-buffer
returns-then-place-buffer c =
    ap (λ part. put_mid c.args.place (c.args.place + c.min-fits.result - c.args.place) c.args.buffer.now part) c.copy_from_slice.ensures.after
    ∙ laid_within c.args.place c.min-fits.result (c.args.place + c.min-fits.result - c.args.place) c.args.octets.now c.args.buffer.now c.if-place-buffer.true c.min-fits.ensures (omega arith)

pub returns-else-place-buffer : goal.returns-else-place-buffer
returns-else-place-buffer c = laid_beyond c.args.place c.args.octets.now c.args.buffer.now (omega arith)
