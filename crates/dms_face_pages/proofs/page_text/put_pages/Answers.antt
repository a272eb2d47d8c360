use Rattle.dms_face_pages.specs.PageText.{page_text}
use Rattle.dms_face_pages.proofs.TextRuns.{thing_more}
use Rattle.dms_face_pages.proofs.page_text.put_pages.Goals as goal

pub loop-index-preserved : goal.loop-index-preserved
loop-index-preserved c =
    thing_more page_text c.args.pages.now c.loop-index.index c.index-pages-index.result _ _ _ c.loop-index-test.true c.index-pages-index.is
    c.loop-index.invariant c.in-Ok.ensures
