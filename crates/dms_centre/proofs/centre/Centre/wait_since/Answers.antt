use Rattle.std.proofs.Common.{◌≡◌, ◌≤◌, ◌<◌, ◌∙◌, ap, subst, sym, true, false, arith}
use Rattle.dms_centre.specs.State.{is_busy}
use Rattle.dms_centre.specs.ByPhase.{awaits_activation}
use Rattle.dms_centre.specs.Room.{CentreModel}
use Rattle.dms_centre.specs.CodeView.{phase_model}
use Rattle.dms_centre.specs.Restoring.{is_of_activation, number_after}
use Rattle.dms_centre.proofs.Fine.{busy_work}
use Rattle.dms_centre.proofs.Rising.{below_after}
use Rattle.dms_centre.proofs.Restored.{waiting_again, activates, below_number}
use Rattle.dms_centre.proofs.centre.Centre.wait_since.Goals as goal

pub enter_job-requires-clause-below : goal.enter_job-requires-clause-below
enter_job-requires-clause-below c =
    let inside = c.self.inside in
    let busy : is_busy (phase_model inside.stage inside.job inside.pending) ≡ true = ap (λ (m : CentreModel). is_busy m.state.phase) c.self.view_is ∙ c.requires.busy in
    let free = subst (λ (m : CentreModel). is_of_activation m.state.phase ≡ true → number_after m.state.ledger < m.state.next) (sym c.self.view_is) c.requires.free in
    let least = subst (λ (m : CentreModel). 1 ≤ m.state.next) (sym c.self.view_is) c.requires.least in
    λ is. below_after 0 _ _ _ c.self.invariant.rise (below_number _ _ least (free (activates inside.stage inside.job inside.pending busy is)))

pub invariant_of-self : goal.invariant_of-self
invariant_of-self c =
    let inside = c.self.inside in
    let busy : is_busy (phase_model inside.stage inside.job inside.pending) ≡ true = ap (λ (m : CentreModel). is_busy m.state.phase) c.self.view_is ∙ c.requires.busy in
    let other : awaits_activation (phase_model inside.stage inside.job inside.pending) ≡ false = ap (λ (m : CentreModel). awaits_activation m.state.phase) c.self.view_is ∙ c.requires.other in
    let free = subst (λ (m : CentreModel). is_of_activation m.state.phase ≡ true → number_after m.state.ledger < m.state.next) (sym c.self.view_is) c.requires.free in
    let least = subst (λ (m : CentreModel). 1 ≤ m.state.next) (sym c.self.view_is) c.requires.least in
    waiting_again _ _ _ _ _ _ c.args.sends c.args.ticks c.self.invariant other (busy_work inside.stage inside.job inside.pending busy c.self.invariant.phase) least c.requires.ticks
    (λ is. free (activates inside.stage inside.job inside.pending busy is)) c.put.ensures c.put_request.ensures c.enter_job.ensures.entries
