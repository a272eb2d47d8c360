use Rattle.dms_agent_watched.proofs.Pictures.{told, tick_left}
use Rattle.dms_agent_watched.proofs.watched.Watched.tick.Goals as goal

pub returns-else-is_put_up_by_itself : goal.returns-else-is_put_up_by_itself
returns-else-is_put_up_by_itself c =
    tick_left c.args.self.now c.self.inside.agent c.tick.new.self c.self.inside.changes c.self.view_is c.tick.ensures
    (told c.tick.new.self c.sign.result.now c.shown-shown.result.now c.sign.ensures c.shown-shown.ensures c.if-is_put_up_by_itself.ensures)
