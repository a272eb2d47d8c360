use Rattle.std.proofs.Common.{arith}
use Rattle.dms_agent_state.proofs.Ends.{end_here, end_shorter, line_passed, shorter, all_passed}
use Rattle.dms_agent_state.proofs.parts.objects_part.Goals as goal

pub returns-in-Some-clause-part : goal.returns-in-Some-clause-part
returns-in-Some-clause-part c = end_here c.args.text.now c.lines.rest.now _ c.in-Some.ensures c.lines.invariant.0

pub returns-in-Some-clause-short : goal.returns-in-Some-clause-short
returns-in-Some-clause-short c = omega (arith, end_shorter c.lines.rest.now _ c.in-Some.ensures, c.lines.invariant.1)

pub lines-smaller : goal.lines-smaller
lines-smaller c = shorter c.lines.rest.now _ _ c.in-Some-cut.ensures

pub lines-preserved : goal.lines-preserved
lines-preserved c = (
  line_passed c.args.text.now c.lines.rest.now _ _ c.in_default.ensures c.in-Some-cut.ensures c.lines.invariant.0,
  omega (arith, shorter c.lines.rest.now _ _ c.in-Some-cut.ensures, c.lines.invariant.1),
)

pub returns-in-None-clause-part : goal.returns-in-None-clause-part
returns-in-None-clause-part c = all_passed c.args.text.now c.lines.rest.now c.in_default.ensures c.in-None.ensures c.lines.invariant.0
