use Rattle.dms_table.proofs.Stands.{one_more_row, one_more_of_octets}
use Rattle.dms_table.proofs.stock.permanent_rows.Goals as goal

pub loop-message-preserved : goal.loop-message-preserved
loop-message-preserved c = record {
  rows = one_more_row c.args.messages.now c.loop-message.message-index _ c.loop-message.rows.items c.push.new.self.items c.permanent.result c.loop-message-test.true c.loop-message.invariant.rows c.permanent.ensures.row c.in_ok-push.ensures.items;
  octets = one_more_of_octets c.loop-message.rows.items c.push.new.self.items c.permanent.result c.loop-message.invariant.octets c.permanent.ensures.octets c.in_ok-push.ensures.items;
}
