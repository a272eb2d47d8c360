use Rattle.std.proofs.Common.{arith, ap, ◌∙◌, ◌*◌}
use Rattle.dms_face_pages.proofs.MaskLaws.{mask_from, mask_at}
use Rattle.dms_face_pages.proofs.lamps.mask_of.Goals as goal

pub returns : goal.returns
returns c = ap (λ octet. mask_from (8 * octet)) c.from-first.ensures ∙ mask_at c.args.octet (omega arith)
