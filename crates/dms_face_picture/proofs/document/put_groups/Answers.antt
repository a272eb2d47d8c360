use Rattle.std.proofs.Common.{length}
use Rattle.dms_face_picture.proofs.Groups.{one_more, time_left}
use Rattle.dms_face_picture.proofs.document.put_groups.Goals as goal

pub loop-page-preserved : goal.loop-page-preserved
loop-page-preserved c = record {
  text = one_more (length c.args.pages.now) c.args.round c.loop-page.start c.page_time-start.result c.of-motion.result _ _ _ c.in-Some.page.now c.in-Some.others.now c.loop-page.rest.now
      c.of-motion.ensures c.page_time-start.ensures.time c.in-Some.ensures.cases.0 c.in_ok-put_page.ensures c.loop-page.invariant.text;
  left = time_left c.args.round c.loop-page.start c.page_time-start.result c.in-Some.page.now c.in-Some.others.now c.loop-page.rest.now
      c.page_time-start.ensures.time c.in-Some.ensures.cases.0 c.loop-page.invariant.left;
}
