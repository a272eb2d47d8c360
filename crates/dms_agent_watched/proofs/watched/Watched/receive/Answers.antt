use Rattle.dms_agent_watched.proofs.Pictures.{told, datagram_left}
use Rattle.dms_agent_watched.proofs.watched.Watched.receive.Goals as goal

pub returns-else-is_put_up_by_itself-clause-after : goal.returns-else-is_put_up_by_itself-clause-after
returns-else-is_put_up_by_itself-clause-after c =
    datagram_left c.args.self.now c.self.inside.agent c.receive-receipt.new.self c.self.inside.changes c.args.datagram.now _ c.self.view_is
    c.receive-receipt.ensures.after c.receive-receipt.ensures.accepted c.if-has_accepted.ensures
    (told c.receive-receipt.new.self c.sign.result.now c.shown-shown.result.now c.sign.ensures c.shown-shown.ensures c.if-is_put_up_by_itself.ensures)
