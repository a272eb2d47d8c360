use Rattle.std.proofs.Common.{◌≡◌, ◌∙◌, ◌/◌, ◌%◌, ap}
use Rattle.std.specs.Prelude.{slice_index_or}
use Rattle.dms_face.specs.Layout.{Character}
use Rattle.dms_face_pages.specs.Styled.{style}
use Rattle.dms_face_pages.specs.Drawing.{covered, is_in_picture, lit_cell}
use Rattle.dms_face_pages.proofs.drawing.draw_character.Goals as goal

pub returns-clause-cells : goal.returns-clause-cells
returns-clause-cells c = λ other place below.
    let width = c.args.face.now.width in
    let cells = c.args.cells.now in
    let character = c.args.character.now in
    let glyph : c.character.inside.glyph.now ≡ character.glyph = ap (λ (it : Character). it.glyph) c.character.view_is in
    let lit = c.number_of-number.ensures.shows ∙ c.cell.ensures ∙ ap (λ (it : Character). lit_cell it.style) c.character.view_is in
    c.draw_picture.ensures.cell other place below
    ∙ ap (λ g. covered (is_in_picture (place % width) (place / width) c.args.x c.args.y g) (style cells.styles c.number_of-number.result) (slice_index_or cells.cells place other)) glyph
    ∙ ap (λ cell. covered (is_in_picture (place % width) (place / width) c.args.x c.args.y character.glyph) cell (slice_index_or cells.cells place other)) lit
