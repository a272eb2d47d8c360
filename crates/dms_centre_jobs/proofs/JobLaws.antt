-- What a job is to put up has the values of its command.
use Rattle.std.proofs.Common.{◌≡◌, Bool, true, false, ap, arith}
use Rattle.dms_codes.specs.declared.codes.Activation.{Activation}
use Rattle.dms_codes.specs.Codes.{row_id}
use Rattle.dms_centre_jobs.specs.declared.job.WrittenRowFields.{WrittenRowFields}
use Rattle.dms_centre_jobs.specs.Job.{Work}
use Rattle.dms_centre_jobs.specs.Steps.{row_of}
use Rattle.dms_centre_jobs.specs.Commands.{CommandModel, IsCommand, OfPublish, OfBlank, OfActivate, is_good, job_of}
use Rattle.dms_centre_jobs.specs.Requests.{IsWork, OfPublishing, OfShowing}
use Rattle.dms_centre_jobs.specs.JobView.{work_model}

-- a command that is taken has a job whose values are in their ranges
pub is_job : (command : CommandModel) → IsCommand command → is_good command ≡ true → IsWork (job_of command).work
is_job c (OfPublish p is) good = OfPublishing p is good
is_job c (OfBlank number minutes priority address small long high is) good = OfShowing _ (record {
  minutes = long;
  priority = high;
  id = record { memory = omega arith; number = small; crc = omega arith };
  size = is.size;
  octets = is.octets;
})
is_job c (OfActivate code is) good = OfShowing code is

-- the row of the stored work
pub row_named : (publishes : Bool) (code : Activation) (fields : WrittenRowFields) (work : Work) → work_model publishes code fields ≡ work
    → row_id code.id ≡ row_of work
row_named true code fields work view = ap row_of view
row_named false code fields work view = ap row_of view
