use Rattle.dms_text_streams.proofs.Turns.{answers-append, left-append}
use Rattle.dms_text_streams.proofs.laws.conversations_go_on.Goals as goal

pub returns-clause-answers : goal.returns-clause-answers
returns-clause-answers g c = answers-append g.P.Party.reply g.P.Party.after

pub returns-clause-after : goal.returns-clause-after
returns-clause-after g c = left-append g.P.Party.after
