use Rattle.dms_centre_text.proofs.CommandLaws.{command_found, command_only}
use Rattle.dms_centre_text.proofs.laws.commands_are_read_where_they_are_spelled.Goals as goal

pub returns-clause-found : goal.returns-clause-found
returns-clause-found c = command_found

pub returns-clause-only : goal.returns-clause-only
returns-clause-only c = command_only
