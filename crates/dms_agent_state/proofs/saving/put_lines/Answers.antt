use Rattle.std.proofs.Common.{arith}
use Rattle.dms_agent_state.specs.AgentText.{kept_line}
use Rattle.dms_text_filling.proofs.Many.{one_more}
use Rattle.dms_agent_state.proofs.Listed.{first_left}
use Rattle.dms_agent_state.proofs.saving.put_lines.Goals as goal

pub loop-rest-preserved : goal.loop-rest-preserved
loop-rest-preserved c =
    one_more kept_line c.args.objects.now c.loop-rest.rest.now _ c.object-item.result c.args.place c.loop-rest.end c.put_line-end.result c.args.buffer.now
    c.loop-rest.buffer c.put_line-end.new.buffer c.loop-rest.invariant
    (first_left c.loop-rest.rest.now c.object-item.result (omega (arith, c.in-len1-up.len_at_least)) c.object-item.is) c.put_line-end.ensures
