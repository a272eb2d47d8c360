use Rattle.dms_text_streams.proofs.Journals.{answers_go_on, left_goes_on}
use Rattle.dms_text_streams.proofs.laws.journals_bring_their_party_back.Goals as goal

pub returns-clause-answers : goal.returns-clause-answers
returns-clause-answers g c = answers_go_on g.P.Party.reply g.P.Party.after

pub returns-clause-after : goal.returns-clause-after
returns-clause-after g c = left_goes_on g.P.Party.after
