use Rattle.dms_face_font.proofs.Bitmaps.{octets_fit}
use Rattle.dms_face_font.proofs.glyph.are_octets.Goals as goal

pub returns : goal.returns
returns c = octets_fit c.args.octets.now (λ i. (c.type_inv.octets i).fits)
