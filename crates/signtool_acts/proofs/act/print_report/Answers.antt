use Rattle.std.proofs.Common.{◌∙◌, sym}
use Rattle.signtool_acts.proofs.Calls.{reported, reported_in_part, script_refused}
use Rattle.signtool_acts.proofs.act.print_report.Goals as goal

pub returns-in-Ok : goal.returns-in-Ok
returns-in-Ok g c =
    reported (g.R.Read.remaining c.args.reader.now) (g.W.Sink.contents c.args.writer.now) (g.W.Sink.contents c.report_script.new.writer) (g.W.Sink.failed c.args.writer.now)
    (g.W.Sink.failed c.report_script.new.writer) c.in-Ok.ensures.report c.in-Ok.ensures.all_written

pub returns-in-Err : goal.returns-in-Err
returns-in-Err g c =
    reported_in_part (g.R.Read.remaining c.args.reader.now) (g.W.Sink.contents c.args.writer.now) (g.W.Sink.contents c.report_script.new.writer) (g.W.Sink.failed c.args.writer.now)
    (g.W.Sink.failed c.report_script.new.writer) _ c.in-Err.refusal.fault (sym c.is_write.ensures ∙ c.if-is_write.true) c.in-Err.ensures.prefix c.in-Err.ensures.write

pub returns-in-Err-2 : goal.returns-in-Err-2
returns-in-Err-2 g c =
    script_refused (g.R.Read.remaining c.args.reader.now) (g.W.Sink.contents c.args.writer.now) (g.W.Sink.contents c.report_script.new.writer) (g.W.Sink.contents c.refuse.new.writer)
    (g.W.Sink.failed c.args.writer.now) (g.W.Sink.failed c.report_script.new.writer) (g.W.Sink.failed c.refuse.new.writer) c.refuse.result c.in-Err.refusal.fault
    c.in-Err.ensures.line c.in-Err.ensures.number c.in-Err.ensures.too_long (sym c.is_write.ensures ∙ c.if-is_write.false) c.in-Err.ensures.nothing
    c.in-Err.ensures.all_written c.refuse.ensures
