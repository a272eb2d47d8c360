use Rattle.std.proofs.Common.{◌≡◌, None, subst, sym, ap, ◌∙◌, arith}
use Rattle.dms_centre.specs.Room.{CentreModel}
use Rattle.dms_centre.specs.Restoring.{stage_fault}
use Rattle.dms_centre.proofs.Restored.{JobTaken, job_taken, due_again, waits_taken}
use Rattle.dms_centre.proofs.centre.Centre.take_job.Goals as goal

pub begin-requires : goal.begin-requires
begin-requires c = (job_taken c.args.self.now.state c.args.saved.now c.requires.taken).good

pub invariant_of-self : goal.invariant_of-self
invariant_of-self c =
    let taken = subst (λ (m : CentreModel). JobTaken m.state c.args.saved.now) (sym c.self.view_is) (job_taken c.args.self.now.state c.args.saved.now c.requires.taken) in
    due_again _ _ c.self.invariant taken.idle c.begin.ensures.work taken.polls
