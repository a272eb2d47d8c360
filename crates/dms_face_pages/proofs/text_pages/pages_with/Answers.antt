use Rattle.std.proofs.Common.{◌∙◌, map, Ok, sym, ap}
use Rattle.std.specs.List.{list_all}
use Rattle.dms_face.specs.Layout.{PageModel, under}
use Rattle.dms_face.specs.Room.{page_fits}
use Rattle.dms_face.specs.Fit.{or_fault}
use Rattle.dms_face.specs.Cells.{pages_of}
use Rattle.dms_face_pages.specs.Drawn.{drawn}
use Rattle.dms_face_pages.specs.Styles.{has_room_for_styles}
use Rattle.dms_face_pages.proofs.LayingLaws.{pages_fit}
use Rattle.dms_face_pages.proofs.FewStyles.{few_styles}
use Rattle.dms_face_pages.proofs.DrawnLaws.{drawn_all_under}
use Rattle.dms_face_pages.proofs.text_pages.pages_with.Goals as goal

pub drawn_pages-requires-clause-fit : goal.drawn_pages-requires-clause-fit
drawn_pages-requires-clause-fit c =
    let face = under c.args.face.now c.args.defaults.now in
    ap (list_all (λ (page : PageModel). page_fits face page.lines)) (c.as_slice.ensures.value ∙ c.in_ok-laid.ensures.laid.0)
    ∙ pages_fit face c.args.text.now c.in_ok-laid.ensures.laid.1

pub drawn_pages-requires-clause-styles : goal.drawn_pages-requires-clause-styles
drawn_pages-requires-clause-styles c =
    ap (list_all has_room_for_styles) (c.as_slice.ensures.value ∙ c.in_ok-laid.ensures.laid.0)
    ∙ few_styles (under c.args.face.now c.args.defaults.now) c.args.text.now c.in_ok-laid.ensures.laid.1

pub returns : goal.returns
returns c =
    let face = under c.args.face.now c.args.defaults.now in
    let text = c.args.text.now in
    ap (or_fault (map (drawn face) (pages_of face text))) c.in_ok-laid.ensures.laid.1
    ∙ ap Ok (sym (c.in_ok-pages.ensures.pages ∙ ap (map (drawn c.args.face.now)) (c.as_slice.ensures.value ∙ c.in_ok-laid.ensures.laid.0) ∙ drawn_all_under c.args.face.now c.args.defaults.now (pages_of face text)))
