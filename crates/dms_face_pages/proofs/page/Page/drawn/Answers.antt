use Rattle.std.proofs.Common.{◌≡◌, ◌∙◌, ◌*◌, [], length, replicate, ap, subst, arith}
use Rattle.dms_face.specs.Layout.{PageModel}
use Rattle.dms_face_pages.specs.Drawn.{unlit}
use Rattle.dms_face_pages.specs.Drawing.{lines_characters, Shows}
use Rattle.dms_face_pages.proofs.DrawnLaws.{blank_shows, cells_shown, page_is}
use Rattle.dms_face_pages.proofs.PageStyles.{lines_added}
use Rattle.dms_face_pages.proofs.page.Page.drawn.Goals as goal

pub draw_lines-requires-clause-matrix : goal.draw_lines-requires-clause-matrix
draw_lines-requires-clause-matrix c = grind arith

pub draw_lines-requires-clause-styles : goal.draw_lines-requires-clause-styles
draw_lines-requires-clause-styles c = grind (arith, lines_added)

pub returns : goal.returns
returns c =
    let face = c.args.face.now in
    let page = c.args.page.now in
    let count = c.from.result * c.from-2.result in
    let background : c.page.inside.background ≡ page.background = ap (λ (p : PageModel). p.background) c.page.view_is in
    let blank : c.add_lines.new.cells.cells ≡ replicate count (unlit page.background) =
    c.in_ok-add_lines.ensures.same ∙ c.in_ok-cells.ensures.cells ∙ ap (λ colour. replicate count (unlit colour)) background in
    let shows = c.draw_lines.ensures.cells page [] (blank_shows face page count c.add_lines.new.cells.cells blank) in
    let all = subst (λ lines. Shows face page (lines_characters face lines) c.draw_lines.new.cells.cells) (c.as_slice-2.ensures.value ∙ ap (λ (p : PageModel). p.lines) c.page.view_is) shows in
    let long : length c.draw_lines.new.cells.cells ≡ count = c.draw_lines.ensures.len ∙ ap length c.in_ok-add_lines.ensures.same ∙ c.in_ok-cells.ensures.len in
    let size : count ≡ face.width * face.height =
    ap (λ n. n * c.from-2.result) (c.from.ensures ∙ c.width.ensures.value) ∙ ap (λ n. face.width * n) (c.from-2.ensures ∙ c.height.ensures.value) in
    page_is face page c.width-2.result c.height-2.result c.page.inside.background c.page.inside.on c.page.inside.off c.draw_lines.new.cells.cells c.width-2.ensures.value
    c.height-2.ensures.value background (ap (λ (p : PageModel). p.on) c.page.view_is) (ap (λ (p : PageModel). p.off) c.page.view_is)
    (cells_shown face page c.draw_lines.new.cells.cells (long ∙ size) all)
