use Rattle.dms_replay.proofs.ScriptRead.{is_report, runs_lawfully}
use Rattle.dms_replay.proofs.replaying.script_report.Goals as goal

pub returns-clause-report : goal.returns-clause-report
returns-clause-report c = is_report c.args.octets.now _ _ _ c.in_ok-world.ensures.run c.in_ok-report.ensures

pub returns-clause-lawful : goal.returns-clause-lawful
returns-clause-lawful c =
    runs_lawfully c.args.octets.now _ _ c.in_ok-world.ensures.run
    (λ it events. c.scripts_run_lawfully.ensures c.args.octets.now it events c.are_octets.ensures)
