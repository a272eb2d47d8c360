use Rattle.std.proofs.Common.{pos}
use Rattle.dms_wire.specs.Message.{integer}
use Rattle.dms_codes.specs.Status.{ask_number}
use Rattle.dms_mib.specs.declared.column.Column.TheVariants.{Status}
use Rattle.dms_mib.specs.Names.{cell_name}
use Rattle.dms_centre_jobs.specs.Steps.{writing}
use Rattle.dms_centre_jobs.proofs.ShortRequests.{set_octets}
use Rattle.dms_centre_jobs.proofs.short.put_short_set.Goals as goal

pub returns : goal.returns
returns c =
    c.put_short.ensures (writing (cell_name Status c.args.row) (integer (pos (ask_number c.args.ask)))) (set_octets c.args.row c.args.ask _ c.number.ensures c.requires.short)
