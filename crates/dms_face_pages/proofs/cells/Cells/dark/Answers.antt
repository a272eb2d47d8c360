use Rattle.std.proofs.Common.{◌≡◌, ◌∙◌, map, replicate, ap}
use Rattle.dms_face_pages.specs.Styled.{style}
use Rattle.dms_face_pages.proofs.StyleLaws.{dark_cells}
use Rattle.dms_face_pages.proofs.cells.Cells.dark.Goals as goal

pub returns-clause-cells : goal.returns-clause-cells
returns-clause-cells c =
    let numbers : c.in_ok-numbers.numbers.items ≡ replicate c.args.count 0 = c.in_ok-numbers.ensures.items_if_clones_equal (λ y same. same) in
    ap (λ styles. map (style styles) c.in_ok-numbers.numbers.items) c.in_ok-styles.ensures ∙ dark_cells c.args.background c.args.count c.in_ok-numbers.numbers.items numbers
