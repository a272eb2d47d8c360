use Rattle.std.proofs.Common.{rules}
use Rattle.dms_wire.specs.Message.{octet_string}
use Rattle.dms_mib.specs.Names.{activate_message}
use Rattle.dms_centre_jobs.specs.Steps.{writing}
use Rattle.dms_centre_jobs.proofs.ShortRequests.{activation_octets}
use Rattle.dms_centre_jobs.proofs.short.put_activation.Goals as goal

pub returns : goal.returns
returns c = c.put_short.ensures (writing activate_message (octet_string c.args.code)) (activation_octets c.args.code (search rules))
