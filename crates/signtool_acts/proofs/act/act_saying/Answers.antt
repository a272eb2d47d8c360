use Rattle.signtool_acts.proofs.Ends.{carried_out}
use Rattle.signtool_acts.proofs.act.act_saying.Goals as goal

pub returns : goal.returns
returns g c =
    carried_out c.args.call.now (g.R.Read.remaining c.args.reader.now) (g.W.Sink.contents c.args.writer.now) (g.W.Sink.contents c.carry_out.new.writer)
    (g.W.Sink.failed c.args.writer.now) (g.W.Sink.failed c.carry_out.new.writer) c.carry_out.result c.status.result c.status.ensures c.carry_out.ensures
