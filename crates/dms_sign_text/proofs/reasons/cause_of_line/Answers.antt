use Rattle.dms_sign_text.proofs.FirstCause.{no_line_ok, no_line_of_a_sign, another_line}
use Rattle.dms_sign_text.proofs.reasons.cause_of_line.Goals as goal

pub returns-in_default-clause-told : goal.returns-in_default-clause-told
returns-in_default-clause-told c = no_line_of_a_sign c.args.octets.now c.args.number c.in_default.field-0 c.in_default.ensures.read

pub returns-in-Line-clause-told : goal.returns-in-Line-clause-told
returns-in-Line-clause-told c = no_line_ok c.first_cause.result c.args.octets.now c.args.number c.first_cause.ensures.told

pub returns-in-Line-2-clause-told : goal.returns-in-Line-2-clause-told
returns-in-Line-2-clause-told c =
    another_line c.args.octets.now c.in-Err.fault c.in-Line.line c.args.number c.in-Err.ensures.number c.in-Line.is c.if-line-number.false
