use Rattle.dms_face_pages.specs.PageText.{row_text}
use Rattle.dms_face_pages.proofs.TextRuns.{number_more}
use Rattle.dms_face_pages.proofs.page_text.put_rows.Goals as goal

pub loop-y-preserved : goal.loop-y-preserved
loop-y-preserved c = number_more (row_text c.args.page.now) c.loop-y.y _ _ _ c.loop-y.invariant c.in_ok-put_row.ensures
