use Rattle.dms_centre_lines.proofs.CallLaws.{call_found, call_only}
use Rattle.dms_centre_lines.proofs.laws.calls_are_read_where_they_are_spelled.Goals as goal

pub returns-clause-found : goal.returns-clause-found
returns-clause-found c = call_found

pub returns-clause-only : goal.returns-clause-only
returns-clause-only c = call_only
