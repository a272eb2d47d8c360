use Rattle.std.proofs.Common.{◌≡◌, ◌∙◌, refl, ap, true}
use Rattle.dms_centre.specs.ByPhase.{is_awaiting}
use Rattle.dms_centre.specs.Room.{CentreModel}
use Rattle.dms_centre.specs.CodeView.{phase_model}
use Rattle.dms_centre.proofs.Fine.{awaited_one, decided_again}
use Rattle.dms_centre.proofs.centre.Centre.succeed.Goals as goal

pub invariant_of-self : goal.invariant_of-self
invariant_of-self c =
    let inside = c.self.inside in
    let awaits : is_awaiting (phase_model inside.stage inside.job inside.pending) ≡ true = ap (λ (m : CentreModel). is_awaiting m.state.phase) c.self.view_is ∙ c.requires.awaiting in
    decided_again _ _ _ _ _ _ c.self.invariant tt refl (awaited_one inside.stage inside.job inside.pending _ awaits c.self.invariant.waiting) c.decide.ensures.entries
