use Rattle.std.proofs.Common.{[], refl, subst}
use Rattle.dms_codes.specs.Limits.{widest_matrix}
use Rattle.dms_face_pages.specs.Drawing.{lines_characters}
use Rattle.dms_face_rows.specs.Held.{lines_of, page_held}
use Rattle.dms_face_rows.specs.Drawing.{Shows}
use Rattle.dms_face_rows.proofs.OctetLaws.{unlit_shows}
use Rattle.dms_face_rows.proofs.rows.row_cells.Goals as goal

pub returns-clause-shows : goal.returns-clause-shows
returns-clause-shows c =
    let page = page_held c.args.page.now in
    subst (λ y. Shows page y (lines_characters c.args.face.now (lines_of c.args.page.now)) c.draw.new.cells) c.from.ensures
    (c.draw.ensures.cells page [] (unlit_shows page c.from.result widest_matrix _ refl))
