use Rattle.dms_sign_restored.proofs.Reached.{saves_leave_runs}
use Rattle.dms_sign_restored.proofs.laws.saves_leave_runs_as_they_are.Goals as goal

pub returns : goal.returns
returns c =
    saves_leave_runs c.texts_tell_states_apart.ensures c.ids_are_their_octets.ensures.id c.args.first.now
    (record { in_range = c.signs_are_kept.ensures.in_range; fits = c.signs_are_kept.ensures.fit })
