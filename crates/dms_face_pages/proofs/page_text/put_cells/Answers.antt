use Rattle.std.proofs.Common.{◌++◌, ap, ◌∙◌}
use Rattle.dms_face_pages.specs.Drawn.{cell_at}
use Rattle.dms_face_pages.specs.PageText.{cell_text}
use Rattle.dms_face_pages.proofs.TextRuns.{number_more}
use Rattle.dms_face_pages.proofs.page_text.put_cells.Goals as goal

pub loop-x-preserved : goal.loop-x-preserved
loop-x-preserved c =
    let more = c.in_ok-put_cell.ensures ∙ ap (λ cell. c.loop-x.text.items ++ cell_text cell) c.cell.ensures.cell in
    number_more (λ x. cell_text (cell_at c.args.page.now x c.args.y)) c.loop-x.x _ _ _ c.loop-x.invariant more
