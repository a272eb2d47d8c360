use Rattle.std.proofs.Common.{◌-◌, arith}
use Rattle.dms_text_streams.proofs.Descriptions.{lost_so_far, lost_line}
use Rattle.dms_text_streams.proofs.describing.description_text.Goals as goal

pub returns-in-Err-clause-lost : goal.returns-in-Err-clause-lost
returns-in-Err-clause-lost g c =
    lost_so_far _ _ _ _ 1048576 (1048576 - c.len-room.result) c.loop-fault.invariant.collects (omega (arith, c.len-room.ensures, c.loop-fault.invariant.short)) c.in-Err.ensures.lost

pub returns-then-is_err-clause-lost : goal.returns-then-is_err-clause-lost
returns-then-is_err-clause-lost g c =
    lost_so_far _ _ _ _ 1048576 (1048576 - c.len-room.result) c.loop-fault.invariant.collects (omega (arith, c.len-room.ensures, c.loop-fault.invariant.short))
    (lost_line _ _ _ _ c.in-Ok.ensures.line c.in-Ok.ensures.short)
