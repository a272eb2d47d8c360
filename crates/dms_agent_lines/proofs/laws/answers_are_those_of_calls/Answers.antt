use Rattle.dms_agent_lines.proofs.CallLaws.{text_of_call, after_the_call, text_of_the_sign, after_the_sign, text_of_bad_line, after_bad_line}
use Rattle.dms_agent_lines.proofs.laws.answers_are_those_of_calls.Goals as goal

pub returns-clause-text : goal.returns-clause-text
returns-clause-text c = text_of_call

pub returns-clause-after : goal.returns-clause-after
returns-clause-after c = after_the_call

pub returns-clause-of_the_sign : goal.returns-clause-of_the_sign
returns-clause-of_the_sign c = text_of_the_sign

pub returns-clause-beside : goal.returns-clause-beside
returns-clause-beside c = after_the_sign

pub returns-clause-bad_line : goal.returns-clause-bad_line
returns-clause-bad_line c = text_of_bad_line

pub returns-clause-unchanged : goal.returns-clause-unchanged
returns-clause-unchanged c = after_bad_line
