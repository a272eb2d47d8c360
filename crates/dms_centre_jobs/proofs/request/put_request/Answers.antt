use Rattle.std.proofs.Common.{refl}
use Rattle.dms_centre_jobs.specs.Steps.{request_of}
use Rattle.dms_centre_jobs.specs.declared.step.Step.TheVariants.{Opening, Opened, Filling, Validating, Comparing}
use Rattle.dms_centre_jobs.proofs.Written.{fits}
use Rattle.dms_centre_jobs.proofs.request.put_request.Goals as goal

pub put_ask-requires-clause-fits : goal.put_ask-requires-clause-fits
unfolding request_of
put_ask-requires-clause-fits c =
    fits _ c.args.number c.args.work.now Opening _ c.requires.settings c.requires.number c.requires.work (rw c.row-row.ensures refl)

pub put_get-requires-clause-fits : goal.put_get-requires-clause-fits
unfolding request_of
put_get-requires-clause-fits c =
    fits _ c.args.number c.args.work.now Opened _ c.requires.settings c.requires.number c.requires.work (rw c.row-row.ensures refl)

pub put_fields-requires : goal.put_fields-requires
unfolding request_of
put_fields-requires c = fits _ c.args.number c.args.work.now Filling _ c.requires.settings c.requires.number c.requires.work refl

pub put_ask-requires-in-Validating-clause-fits : goal.put_ask-requires-in-Validating-clause-fits
unfolding request_of
put_ask-requires-in-Validating-clause-fits c =
    fits _ c.args.number c.args.work.now Validating _ c.requires.settings c.requires.number c.requires.work (rw c.row-row.ensures refl)

pub put_get-requires-in-Comparing-clause-fits : goal.put_get-requires-in-Comparing-clause-fits
unfolding request_of
put_get-requires-in-Comparing-clause-fits c =
    fits _ c.args.number c.args.work.now Comparing _ c.requires.settings c.requires.number c.requires.work (rw c.row-row.ensures refl)
