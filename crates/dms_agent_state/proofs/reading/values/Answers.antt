use Rattle.std.proofs.Common.{◌+◌, map, sym, ap, subst, ◌∙◌, arith}
use Rattle.dms_text.specs.Words.{parts_of}
use Rattle.dms_device.specs.Objects.{binding_of}
use Rattle.dms_agent_state.proofs.LinesRead.{AreReadTo, some_part, map_push, read_more, read_error}
use Rattle.dms_agent_state.proofs.reading.values.Goals as goal

pub returns-in-Err : goal.returns-in-Err
returns-in-Err c =
    read_error c.in-Err.error c.args.first c.loop-line.number (parts_of 10 c.args.lines.now) (parts_of 10 c.loop-line.rest.now) (parts_of 10 c.in-Some.others.now)
    c.in-Some.line.now (map binding_of c.loop-line.values.items) c.in-Some.ensures.parts (some_part c.in-Some.others.now) c.in-Err.ensures c.loop-line.invariant.read

pub loop-line-preserved : goal.loop-line-preserved
loop-line-preserved c = record {
  read =
      subst (AreReadTo c.args.first (parts_of 10 c.args.lines.now) (c.loop-line.number + 1) (parts_of 10 c.in-Some.others.now))
      (sym (ap (map binding_of) c.in_ok-push.ensures.items ∙ map_push c.loop-line.values.items c.in-Ok.value))
      (read_more c.args.first c.loop-line.number (parts_of 10 c.args.lines.now) (parts_of 10 c.loop-line.rest.now) (parts_of 10 c.in-Some.others.now)
      c.in-Some.line.now (binding_of c.in-Ok.value) (map binding_of c.loop-line.values.items) c.in-Some.ensures.parts (some_part c.in-Some.others.now)
      c.in-Ok.ensures c.loop-line.invariant.read);
  few = omega (arith, c.loop-line.invariant.few, c.in-Some.ensures.shorter);
}
