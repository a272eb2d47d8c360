use Rattle.std.proofs.Common.{◌≡◌, ◌∙◌, ◌+◌, ◌-◌, ◌*◌, ◌/◌, ◌%◌, ◌<◌, ◌&&◌, ◌||◌, ap, arith, min}
use Rattle.std.specs.Prelude.{nat_lt}
use Rattle.dms_face_pages.specs.Drawing.{is_in_picture, is_lit_in_row}
use Rattle.dms_face_pages.specs.Styled.{style}
use Rattle.dms_face_pages.proofs.DrawingLaws.{wide, on_row, more_above, all_above, lights_same, lights_more}
use Rattle.dms_face_pages.proofs.drawing.draw_picture.Goals as goal

pub loop-row-init : goal.loop-row-init
loop-row-init c = grind arith

pub loop-row-preserved : goal.loop-row-preserved
loop-row-preserved c =
    let width = c.args.face.now.width in
    let row = c.loop-row.row in
    let glyph = c.args.glyph.now in
    let x = c.args.x in
    let y = c.args.y in
    let same : c.from-width.result ≡ width = c.from-width.ensures ∙ c.width.ensures.value in
    let columns : glyph.width ≡ min glyph.width (width - x) = omega (arith, c.requires.inside) in
    lights_more (λ place. is_in_picture (place % width) (place / width) x y glyph && nat_lt (place / width) (y + row))
    (is_lit_in_row ((y + row) * c.from-width.result + x) glyph.width glyph row)
    (λ place. is_in_picture (place % width) (place / width) x y glyph && nat_lt (place / width) (y + (row + 1)))
    c.args.number c.args.cells.now c.loop-row.cells c.light_row.new.cells c.requires.number c.loop-row.invariant c.light_row.ensures
    (λ place below.
    let inside : place < width * c.args.face.now.height = omega (arith, c.requires.matrix) in
    ap (λ w. is_lit_in_row ((y + row) * w + x) glyph.width glyph row place || (is_in_picture (place % width) (place / width) x y glyph && nat_lt (place / width) (y + row))) same
    ∙ ap (λ b. b || (is_in_picture (place % width) (place / width) x y glyph && nat_lt (place / width) (y + row)))
    (on_row width x (y + row) glyph.width glyph.width glyph row place (wide place width c.args.face.now.height inside) (omega (arith, c.requires.inside)) columns
    (λ k line on. (c.height.ensures.inside k line on).0))
    ∙ more_above width x y glyph row place)

pub returns : goal.returns
returns c =
    let width = c.args.face.now.width in
    let height = c.args.face.now.height in
    lights_same _ (λ place. is_in_picture (place % width) (place / width) c.args.x c.args.y c.args.glyph.now) (style c.args.cells.now.styles c.args.number) c.args.cells.now c.loop-row.cells
    (λ place below. all_above width height place c.loop-row.row c.args.x c.args.y c.args.glyph.now (omega (arith, c.requires.matrix))
    (λ k row on near. let within = c.height.ensures.inside k row on in omega (arith, within.1)))
    c.loop-row.invariant
