use Rattle.std.proofs.Common.{◌-◌, ◌&&◌, arith}
use Rattle.std.specs.Prelude.{nat_le}
use Rattle.dms_face_font.specs.Glyph.{is_bit}
use Rattle.dms_face_pages.specs.Drawing.{is_lit_in_row}
use Rattle.dms_face_pages.specs.Styled.{style}
use Rattle.dms_face_pages.proofs.DrawingLaws.{lights_same, row_lit}
use Rattle.dms_face_pages.proofs.drawing.light_row.Goals as goal

pub light_bits-requires : goal.light_bits-requires
light_bits-requires c = grind arith

pub returns : goal.returns
returns c =
    let glyph = c.args.glyph.now in
    lights_same (λ place. nat_le c.args.first place && is_bit c.row.result (place - c.args.first)) (is_lit_in_row c.args.first glyph.width glyph c.args.row)
    (style c.args.cells.now.styles c.args.number) c.args.cells.now c.light_bits.new.cells
    (λ place below. row_lit c.args.first glyph.width c.row.result glyph c.args.row place c.row.ensures c.requires.within)
    c.light_bits.ensures
