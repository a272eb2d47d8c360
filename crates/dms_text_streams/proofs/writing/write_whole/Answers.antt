use Rattle.std.proofs.Common.{◌∙◌}
use Rattle.dms_text_streams.proofs.Written.{wrote_more, unfailed, room_still}
use Rattle.dms_text_streams.proofs.writing.write_whole.Goals as goal

-- src/writing.rt:21:5
pub loop-rest-preserved : goal.loop-rest-preserved
loop-rest-preserved g c = let kept = c.loop-rest.invariant in record {
  written = wrote_more _ _ _ _ kept.written.0 _ _ _ _ kept.written.1 kept.written.2 c.in-Ok.is c.write_some.ensures.octets c.split_at.ensures.back;
  unfailed = unfailed _ _ _ _ _ c.write_some.ensures.count c.in-Ok.is c.if-count-eq0.false ∙ kept.unfailed;
  room = λ more has.
      room_still _ _ _ _ more _ _ (kept.room more has) c.in-Ok.is c.write_some.ensures.room c.split_at.ensures.back;
}
