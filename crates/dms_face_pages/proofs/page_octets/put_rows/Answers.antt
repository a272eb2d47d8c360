use Rattle.dms_face_pages.specs.PageOctets.{row_octets}
use Rattle.dms_face_pages.proofs.TextRuns.{number_more}
use Rattle.dms_face_pages.proofs.page_octets.put_rows.Goals as goal

pub loop-y-preserved : goal.loop-y-preserved
loop-y-preserved c = number_more (row_octets c.args.layer c.args.page.now) c.loop-y.y _ _ _ c.loop-y.invariant c.in_ok-put_row.ensures
