use Rattle.std.proofs.Common.{arith, length-append}
use Rattle.dms_wire.proofs.ShortPrefixes.{status_room}
use Rattle.dms_wire.proofs.message.put_long_pdu_prefix.Goals as goal

pub put_long_request-requires : goal.put_long_request-requires
put_long_request-requires c = omega (arith, c.requires, status_room _ _ _ _ c.in-Some.ensures)

pub put_content-requires : goal.put_content-requires
put_content-requires c = grind (arith, length-append, status_room _ _ _ _ c.in-Some.ensures)
