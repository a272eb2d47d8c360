use Rattle.std.proofs.Common.{sym, ◌∙◌}
use Rattle.dms_centre_restored.proofs.laws.restored_centres_are_one.Goals as goal

pub returns-clause-one : goal.returns-clause-one
returns-clause-one c =
    λ settings text one other a b. c.texts_tell_states_apart.ensures one other a.reached b.reached (a.settings ∙ sym b.settings) (a.text ∙ sym b.text)
