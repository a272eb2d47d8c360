use Rattle.std.proofs.Common.{◌≡◌, ◌∙◌, ◌≤◌, ◌<◌, Some, length, sym, arith}
use Rattle.dms_face.specs.Layout.{under}
use Rattle.dms_face_pages.specs.Drawn.{drawn, drawn_text}
use Rattle.dms_face_pages.specs.PageOctets.{row_octets}
use Rattle.dms_face_rows.specs.Held.{page_of_text}
use Rattle.dms_face_rows.specs.Rows.{page_numbered, row_numbered}
use Rattle.dms_face_rows.proofs.OctetLaws.{a_page, row_some, row_length, size_some, put_short, put_whole}
use Rattle.dms_face_rows.proofs.rows.put_row.Goals as goal

pub returns-then-width-octets-clause-size : goal.returns-then-width-octets-clause-size
returns-then-width-octets-clause-size c =
    let face = c.args.face.now in
    let other = under face c.args.defaults.now in
    let page = page_of_text other c.args.number c.args.text.now in
    let found = page_numbered c.args.number (drawn_text other c.args.text.now) in
    let there : found ≡ Some (drawn face page) = a_page face c.args.defaults.now c.args.text.now c.args.number (c.has_page.ensures.shown c.if-not-has_page.false) (c.has_page.ensures.page c.if-not-has_page.false) in
    let inside : c.args.y < face.height = omega (arith, c.if-y-height.false, c.height.ensures.value) in
    let is = row_some c.args.layer c.args.y face page found there inside in
    size_some (row_numbered c.args.layer c.args.y found) (row_octets c.args.layer (drawn face page) c.args.y) c.from-width.result is
    (c.from-width.ensures ∙ c.width.ensures.value ∙ sym (row_length c.args.layer face page c.args.y))

pub returns-then-width-octets-clause-octets : goal.returns-then-width-octets-clause-octets
returns-then-width-octets-clause-octets c =
    let face = c.args.face.now in
    let other = under face c.args.defaults.now in
    let page = page_of_text other c.args.number c.args.text.now in
    let found = page_numbered c.args.number (drawn_text other c.args.text.now) in
    let there : found ≡ Some (drawn face page) = a_page face c.args.defaults.now c.args.text.now c.args.number (c.has_page.ensures.shown c.if-not-has_page.false) (c.has_page.ensures.page c.if-not-has_page.false) in
    let inside : c.args.y < face.height = omega (arith, c.if-y-height.false, c.height.ensures.value) in
    let is = row_some c.args.layer c.args.y face page found there inside in
    let room : face.width ≤ length c.args.octets.now = omega (arith, c.if-width-octets.true, c.from-width.ensures, c.width.ensures.value) in
    put_whole (row_numbered c.args.layer c.args.y found) (row_octets c.args.layer (drawn face page) c.args.y) c.args.octets.now c.put_numbered.new.octets face.width is
    (sym (row_length c.args.layer face page c.args.y)) room c.put_numbered.ensures

pub returns-else-width-octets-clause-size : goal.returns-else-width-octets-clause-size
returns-else-width-octets-clause-size c =
    let face = c.args.face.now in
    let other = under face c.args.defaults.now in
    let page = page_of_text other c.args.number c.args.text.now in
    let found = page_numbered c.args.number (drawn_text other c.args.text.now) in
    let there : found ≡ Some (drawn face page) = a_page face c.args.defaults.now c.args.text.now c.args.number (c.has_page.ensures.shown c.if-not-has_page.false) (c.has_page.ensures.page c.if-not-has_page.false) in
    let inside : c.args.y < face.height = omega (arith, c.if-y-height.false, c.height.ensures.value) in
    let is = row_some c.args.layer c.args.y face page found there inside in
    size_some (row_numbered c.args.layer c.args.y found) (row_octets c.args.layer (drawn face page) c.args.y) c.from-width.result is
    (c.from-width.ensures ∙ c.width.ensures.value ∙ sym (row_length c.args.layer face page c.args.y))

pub returns-else-width-octets-clause-octets : goal.returns-else-width-octets-clause-octets
returns-else-width-octets-clause-octets c =
    let face = c.args.face.now in
    let other = under face c.args.defaults.now in
    let page = page_of_text other c.args.number c.args.text.now in
    let found = page_numbered c.args.number (drawn_text other c.args.text.now) in
    let there : found ≡ Some (drawn face page) = a_page face c.args.defaults.now c.args.text.now c.args.number (c.has_page.ensures.shown c.if-not-has_page.false) (c.has_page.ensures.page c.if-not-has_page.false) in
    let inside : c.args.y < face.height = omega (arith, c.if-y-height.false, c.height.ensures.value) in
    let is = row_some c.args.layer c.args.y face page found there inside in
    let short : length c.args.octets.now < length (row_octets c.args.layer (drawn face page) c.args.y) =
    omega (arith, c.if-width-octets.false, c.from-width.ensures, c.width.ensures.value, row_length c.args.layer face page c.args.y) in
    put_short (row_numbered c.args.layer c.args.y found) (row_octets c.args.layer (drawn face page) c.args.y) c.args.octets.now is short
