use Rattle.dms_centre_lines.proofs.Causes.{cause_of_no_call, no_cause_of_call}
use Rattle.dms_centre_lines.proofs.laws.each_line_is_a_call_or_has_a_cause.Goals as goal

pub returns-clause-cause : goal.returns-clause-cause
returns-clause-cause c = cause_of_no_call

pub returns-clause-call : goal.returns-clause-call
returns-clause-call c = no_cause_of_call
