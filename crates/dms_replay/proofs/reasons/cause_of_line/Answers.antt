use Rattle.dms_replay.proofs.ScriptCauses.{no_line_of_a_script, another_line}
use Rattle.dms_replay.proofs.reasons.cause_of_line.Goals as goal

pub returns-in_default-clause-told : goal.returns-in_default-clause-told
returns-in_default-clause-told c =
    no_line_of_a_script c.args.octets.now c.args.number c.in_default.ensures.read.0 c.in_default.ensures.read.1 c.in_default.ensures.read.2

pub returns-in_default-fault-clause-told : goal.returns-in_default-fault-clause-told
returns-in_default-fault-clause-told c =
    another_line c.args.octets.now c.in-Err.fault c.in-Line.line c.args.number c.in-Err.ensures.number c.in-Line.is c.if-line-number.false
