use Rattle.std.proofs.Common.{◌≡◌, ◌∙◌, map, subst}
use Rattle.dms_face.specs.declared.justification.Place.TheVariants.{Start, Halfway, End}
use Rattle.dms_face.specs.Room.{begin, extent_at, line_block}
use Rattle.dms_face_pages.proofs.PlacingLaws.{lines_are}
use Rattle.dms_face_rows.specs.Held.{lines_of}
use Rattle.dms_face_rows.specs.Drawing.{Shows}
use Rattle.dms_face_rows.proofs.held.HeldPage.draw.Goals as goal

pub returns-clause-cells : goal.returns-clause-cells
returns-clause-cells c = λ page before shows.
    let face = c.args.face.now in
    let lines = lines_of c.args.self.now in
    let whole : c.from-height.result ≡ face.height = c.from-height.ensures ∙ c.height.ensures.value in
    let top : c.begin-top.result ≡ begin Start face.height (extent_at Start (map line_block lines)) =
    cc (c.begin-top.ensures.begin, whole, c.extent.ensures) in
    let middle : c.begin-middle.result ≡ begin Halfway face.height (extent_at Halfway (map line_block lines)) =
    cc (c.begin-middle.ensures.begin, whole, c.extent-2.ensures) in
    let bottom : c.begin-bottom.result ≡ begin End face.height (extent_at End (map line_block lines)) =
    cc (c.begin-bottom.ensures.begin, whole, c.extent-3.ensures) in
    subst (λ l. Shows page c.args.y l c.draw_part-3.new.cells) (lines_are face lines c.begin-top.result c.begin-middle.result c.begin-bottom.result before top middle bottom)
    (c.draw_part-3.ensures.cells page _ (c.draw_part-2.ensures.cells page _ (c.draw_part.ensures.cells page before shows)))
