use Rattle.dms_wire_ber.proofs.NameWalk.{below_dms}
use Rattle.dms_wire_ber.proofs.object_identifier.is_name.Goals as goal

pub returns-in-Some : goal.returns-in-Some
returns-in-Some c = rw (below_dms c.args.octets.now _ c.in-Some.ensures.some) c.goes_on_by_fours.ensures
