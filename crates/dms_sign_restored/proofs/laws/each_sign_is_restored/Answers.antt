use Rattle.dms_sign_restored.proofs.Reached.{each_is_restored, each_is_put}
use Rattle.dms_sign_restored.proofs.laws.each_sign_is_restored.Goals as goal

pub returns-clause-restored : goal.returns-clause-restored
returns-clause-restored c =
    each_is_restored c.ids_are_their_octets.ensures.id c.args.first.now
    (record { in_range = c.signs_are_kept.ensures.in_range; fits = c.signs_are_kept.ensures.fit })

pub returns-clause-put : goal.returns-clause-put
returns-clause-put c =
    each_is_put c.ids_are_their_octets.ensures.id c.args.first.now
    (record { in_range = c.signs_are_kept.ensures.in_range; fits = c.signs_are_kept.ensures.fit })
