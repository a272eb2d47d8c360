use Rattle.std.proofs.Common.{◌≡◌, ◌∙◌, ◌+◌, ◌*◌, ◌<◌, ap, arith}
use Rattle.std.specs.Prelude.{slice_index_or}
use Rattle.dms_face_pages.specs.Drawn.{DrawnPage, unlit, cell_at}
use Rattle.dms_face_pages.proofs.DrawnLaws.{drawn_cell_of}
use Rattle.dms_face_pages.proofs.page.Page.cell.Goals as goal

pub at-requires : goal.at-requires
at-requires c = grind arith

pub returns : goal.returns
returns c =
    let fields = c.self.inside in
    let same : c.from.result * c.from-2.result + c.from-3.result ≡ c.args.y * fields.width + c.args.x =
    ap (λ y. y * c.from-2.result + c.from-3.result) c.from.ensures ∙ ap (λ w. c.args.y * w + c.from-3.result) c.from-2.ensures
    ∙ ap (λ x. c.args.y * fields.width + x) c.from-3.ensures in
    let is : c.at.result ≡ cell_at c.args.self.now c.args.x c.args.y =
    c.at.ensures (unlit fields.background) ∙ ap (λ k. slice_index_or fields.cells.cells k (unlit fields.background)) same
    ∙ ap (λ (p : DrawnPage). cell_at p c.args.x c.args.y) c.self.view_is in
    record { cell = is; drawn = λ face page drawn. is ∙ drawn_cell_of face page c.args.self.now c.args.x c.args.y drawn c.requires.column c.requires.row }
