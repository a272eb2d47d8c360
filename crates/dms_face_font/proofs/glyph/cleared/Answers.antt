use Rattle.std.proofs.Common.{arith, ◌-◌, ◌*◌, ◌∙◌, subst}
use Rattle.std.proofs.lemmas.Grind.{get_or_default_zero}
use Rattle.std.specs.Int.Digits.{AllBelowBase}
use Rattle.dms_face_font.proofs.Bitmaps.{cleared_holds}
use Rattle.dms_face_font.proofs.glyph.cleared.Goals as goal

pub returns : goal.returns
returns c =
    cleared_holds c.args.octets.items c.args.count (c.len-last.result - 1) (8 * c.len.result - c.args.count) c.index.result.now
    (subst (AllBelowBase 256) c.as_slice.ensures.value c.are_octets.ensures) (omega arith) c.requires.enough c.requires.some (omega (arith, c.len-last.ensures)) (omega (arith, c.len.ensures))
    (c.index.ensures ∙ get_or_default_zero c.args.octets.items (c.len-last.result - 1) c.index.result.now (omega (arith, c.len-last.ensures, c.requires.enough, c.requires.some)))
