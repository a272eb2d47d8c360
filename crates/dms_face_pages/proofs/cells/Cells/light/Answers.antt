use Rattle.std.proofs.Common.{◌≡◌, ◌∙◌, ◌<◌, ◌==◌, true, length, get_or, set, refl, sym, ap, subst, arith}
use Rattle.std.specs.Prelude.{vec_capacity}
use Rattle.std.proofs.lemmas.List.{length-map, get_or_read}
use Rattle.dms_face_pages.specs.Styled.{StyledCells, style, Lights}
use Rattle.dms_face_pages.proofs.StyleLaws.{with_numbers, lit_now, lit_before}
use Rattle.dms_face_pages.proofs.cells.Cells.light.Goals as goal

pub returns-then-index-eq0 : goal.returns-then-index-eq0
returns-then-index-eq0 c =
    let styles = c.self.inside.styles.items in
    let memory = vec_capacity c.self.inside.styles in
    let numbers = c.self.inside.numbers.items in
    let below : c.args.place < length numbers = omega (arith, c.requires.inside, ap (λ (cells : StyledCells). length cells.cells) c.self.view_is, length-map numbers (style styles)) in
    let is = get_or_read numbers c.args.place c.index.result.now below c.index.ensures 0 in
    subst (λ (now : StyledCells). Lights (λ k. k == c.args.place) (style now.styles c.args.number) now (with_numbers styles memory (set numbers c.args.place c.args.number))) c.self.view_is
    (lit_now styles memory numbers c.args.place c.args.number true c.self.invariant below refl (sym is ∙ c.if-index-eq0.true))

pub returns-else-index-eq0 : goal.returns-else-index-eq0
returns-else-index-eq0 c =
    let styles = c.self.inside.styles.items in
    let memory = vec_capacity c.self.inside.styles in
    let numbers = c.self.inside.numbers.items in
    let below : c.args.place < length numbers = omega (arith, c.requires.inside, ap (λ (cells : StyledCells). length cells.cells) c.self.view_is, length-map numbers (style styles)) in
    let is = get_or_read numbers c.args.place c.index.result.now below c.index.ensures 0 in
    let stays : true ≡ true → 0 < get_or numbers c.args.place 0 = λ on. omega (arith, is, c.if-index-eq0.false) in
    subst (λ (now : StyledCells). Lights (λ k. k == c.args.place) (style now.styles c.args.number) now now) c.self.view_is
    (lit_before styles memory numbers c.args.place c.args.number true c.self.invariant stays)
