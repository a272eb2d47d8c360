use Rattle.std.proofs.Common.{◌≡◌, ◌∙◌, ◌+◌, map, ap, subst}
use Rattle.dms_face.specs.declared.justification.Place.TheVariants.{Start, Halfway, End}
use Rattle.dms_face.specs.Room.{begin, extent_at, character_block}
use Rattle.dms_face_pages.proofs.PlacingLaws.{line_is}
use Rattle.dms_face_rows.specs.Held.{line_of}
use Rattle.dms_face_rows.specs.Drawing.{Shows}
use Rattle.dms_face_rows.proofs.held.HeldPage.draw_line.Goals as goal

pub returns-clause-cells : goal.returns-clause-cells
returns-clause-cells c = λ page before shows.
    let face = c.args.face.now in
    let line = line_of c.args.self.now.characters.items c.args.line.now in
    let characters = c.characters-characters.result.now in
    let whole : c.from-width.result ≡ face.width = c.from-width.ensures ∙ c.width.ensures.value in
    let left : c.begin-left.result ≡ begin Start face.width (extent_at Start (map character_block characters)) =
    cc (c.begin-left.ensures.begin, whole, c.characters_extent.ensures) in
    let centre : c.begin-centre.result ≡ begin Halfway face.width (extent_at Halfway (map character_block characters)) =
    cc (c.begin-centre.ensures.begin, whole, c.characters_extent-2.ensures) in
    let right : c.begin-right.result ≡ begin End face.width (extent_at End (map character_block characters)) =
    cc (c.begin-right.ensures.begin, whole, c.characters_extent-3.ensures) in
    subst (λ l. Shows page c.args.y l c.draw_side-3.new.cells)
    (line_is face c.args.top line characters c.begin-left.result c.begin-centre.result c.begin-right.result (c.args.top + c.from.result) before
    c.characters-characters.ensures left centre right (ap (λ n. c.args.top + n) (c.from.ensures ∙ c.height.ensures)))
    (c.draw_side-3.ensures.cells page _ (c.draw_side-2.ensures.cells page _ (c.draw_side.ensures.cells page before shows)))
