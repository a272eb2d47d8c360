use Rattle.dms_centre.specs.History.{made}
use Rattle.dms_centre_restored.proofs.SameRun.{same_run}
use Rattle.dms_centre_restored.proofs.laws.saves_change_no_run.Goals as goal

pub returns : goal.returns
returns c =
    λ settings first events after are small inputs goes.
    same_run c.texts_tell_states_apart.ensures c.states_are_reached.ensures.input events (made settings first) after (c.states_are_reached.ensures.made settings first are small) inputs goes
