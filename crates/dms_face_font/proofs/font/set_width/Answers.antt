use Rattle.std.proofs.Common.{sym, ◌∙◌}
use Rattle.dms_face_font.proofs.WidthLaws.{plain_added, other_added}
use Rattle.dms_face_font.proofs.font.set_width.Goals as goal

pub returns-then-is_plain : goal.returns-then-is_plain
returns-then-is_plain c = λ glyphs glyph are character width none.
    plain_added c.args.widths.now glyphs glyph c.args.character c.args.width c.from-then-is_plain.result c.from.result are character width none
    (sym c.is_plain.ensures ∙ c.if-is_plain.true) c.from-then-is_plain.ensures c.from.ensures

pub returns-else-is_plain : goal.returns-else-is_plain
returns-else-is_plain c = λ glyphs glyph are character width none.
    other_added c.args.widths.now glyphs glyph c.args.character are character (sym c.is_plain.ensures ∙ c.if-is_plain.false)
