use Rattle.std.proofs.Common.{◌∙◌, ap, arith}
use Rattle.std.specs.Prelude.{option_map}
use Rattle.dms_device_fonts.specs.View.{lowest, character_binding}
use Rattle.dms_device_fonts.proofs.Lowest.{least_none, least_some}
use Rattle.dms_device_fonts.proofs.ends.least_glyph.Goals as goal

pub returns-then-number-gt65535 : goal.returns-then-number-gt65535
returns-then-number-gt65535 c = λ column.
    least_none c.args.font.now column c.args.least c.lowest-number.result c.requires.high
    (c.lowest-number.ensures ∙ ap (lowest c.args.least 65536) c.glyphs.ensures) (omega (arith, c.if-number-gt65535.true))

pub returns : goal.returns
returns c = λ column.
    ap (option_map (character_binding column)) (c.glyph.ensures)
    ∙ least_some c.args.font.now column c.args.least c.lowest-number.result c.requires.high
    (c.lowest-number.ensures ∙ ap (lowest c.args.least 65536) c.glyphs.ensures) (omega (arith, c.if-number-gt65535.false))
