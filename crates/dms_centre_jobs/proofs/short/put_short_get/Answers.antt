use Rattle.dms_mib.specs.Names.{cell_name}
use Rattle.dms_centre_jobs.specs.Steps.{reading}
use Rattle.dms_centre_jobs.proofs.ShortRequests.{get_octets}
use Rattle.dms_centre_jobs.proofs.short.put_short_get.Goals as goal

pub returns : goal.returns
returns c = c.put_short.ensures (reading (cell_name c.args.column c.args.row)) (get_octets c.args.column c.args.row _ c.number.ensures c.requires.short)
