use Rattle.std.proofs.Common.{◌≡◌, ◌∙◌, ◌≤◌, ◌++◌, length, drop, ap, arith}
use Rattle.dms_multi.specs.Outcomes.{items_of}
use Rattle.dms_face.specs.Layout.{under}
use Rattle.dms_face_pages.specs.Drawn.{drawn}
use Rattle.dms_face_pages.specs.PageOctets.{row_octets}
use Rattle.dms_face_pages.proofs.LayingLaws.{is_read}
use Rattle.dms_face_rows.specs.Held.{page_held, page_from, page_of_text}
use Rattle.dms_face_rows.specs.Drawing.{cells_octets}
use Rattle.dms_face_rows.proofs.OctetLaws.{a_page_fits, row_is}
use Rattle.dms_face_rows.proofs.rows.put_numbered.Goals as goal

pub lay_out-requires-clause-short : goal.lay_out-requires-clause-short
lay_out-requires-clause-short c = (is_read (under c.args.face.now c.args.defaults.now) c.args.text.now c.requires.shown).0

pub row_cells-cells-requires-clause-room : goal.row_cells-cells-requires-clause-room
row_cells-cells-requires-clause-room c =
    let other = under c.args.face.now c.args.defaults.now in
    let made : page_held c.lay_out.new.self ≡ page_of_text other c.args.number c.args.text.now =
    c.lay_out.ensures.page ∙ ap (λ layout. page_from other layout c.args.number (items_of c.args.text.now)) c.blank-page.ensures.layout in
    a_page_fits c.args.face.now c.args.defaults.now c.args.text.now c.args.number (page_held c.lay_out.new.self) c.requires.shown c.requires.page made

pub returns : goal.returns
returns c =
    let face = c.args.face.now in
    let other = under face c.args.defaults.now in
    let page = page_held c.lay_out.new.self in
    let cells = c.row_cells-cells.result in
    let made : page ≡ page_of_text other c.args.number c.args.text.now =
    c.lay_out.ensures.page ∙ ap (λ layout. page_from other layout c.args.number (items_of c.args.text.now)) c.blank-page.ensures.layout in
    let width : c.from.result ≡ face.width = c.from.ensures ∙ c.width.ensures.value in
    let wide : face.width ≤ length cells = omega (arith, c.width.ensures.most, c.width.ensures.value, c.row_cells-cells.ensures.len) in
    let same : cells_octets c.args.layer cells c.from.result ≡ row_octets c.args.layer (drawn face page) c.args.y =
    row_is c.args.layer face page c.args.y c.from.result cells width wide c.requires.row c.row_cells-cells.ensures.shows in
    c.put_octets.ensures
    ∙ ap (λ octets. octets ++ drop c.from.result c.args.octets.now) (same ∙ ap (λ p. row_octets c.args.layer (drawn face p) c.args.y) made)
    ∙ ap (λ n. row_octets c.args.layer (drawn face (page_of_text other c.args.number c.args.text.now)) c.args.y ++ drop n c.args.octets.now) width
