use Rattle.std.proofs.Common.{◌≡◌, ◌∙◌, ap, true, false}
use Rattle.dms_centre.specs.State.{is_busy}
use Rattle.dms_centre.specs.ByPhase.{awaits_activation}
use Rattle.dms_centre.specs.Room.{CentreModel}
use Rattle.dms_centre.specs.CodeView.{phase_model}
use Rattle.dms_centre.proofs.Fine.{busy_work, awaiting_again}
use Rattle.dms_centre.proofs.centre.Centre.send.Goals as goal

pub invariant_of-self : goal.invariant_of-self
invariant_of-self c =
    let inside = c.self.inside in
    let busy : is_busy (phase_model inside.stage inside.job inside.pending) ≡ true = ap (λ (m : CentreModel). is_busy m.state.phase) c.self.view_is ∙ c.requires.busy in
    let other : awaits_activation (phase_model inside.stage inside.job inside.pending) ≡ false = ap (λ (m : CentreModel). awaits_activation m.state.phase) c.self.view_is ∙ c.requires.other in
    awaiting_again _ _ _ _ _ _ c.self.invariant other (busy_work inside.stage inside.job inside.pending busy c.self.invariant.phase)
    c.begin.ensures c.put_request.ensures c.enter_job.ensures.entries
