use Rattle.dms_agent_lines.proofs.Signs.{text_alone, after_alone}
use Rattle.dms_agent_lines.proofs.laws.alone_it_is_the_sign.Goals as goal

pub returns-clause-text : goal.returns-clause-text
returns-clause-text c = text_alone

pub returns-clause-after : goal.returns-clause-after
returns-clause-after c = after_alone
