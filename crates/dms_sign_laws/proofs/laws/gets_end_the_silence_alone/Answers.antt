use Rattle.dms_sign_laws.proofs.Silence.{answered_get, unanswered}
use Rattle.dms_sign_laws.proofs.laws.gets_end_the_silence_alone.Goals as goal

pub returns : goal.returns
returns c = record { answered = answered_get; unanswered = unanswered }
