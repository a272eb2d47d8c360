use Rattle.dms_mib.specs.Names.{activate_message_error}
use Rattle.dms_centre_jobs.specs.Steps.{reading}
use Rattle.dms_centre_jobs.proofs.ShortRequests.{cause_octets}
use Rattle.dms_centre_jobs.proofs.short.put_cause.Goals as goal

pub returns : goal.returns
returns c = c.put_short.ensures (reading activate_message_error) cause_octets
