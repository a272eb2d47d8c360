use Rattle.std.proofs.Common.{refl}
use Rattle.dms_sign.proofs.Causes.{written_more}
use Rattle.dms_sign.proofs.sign.set_request.write_changes.Goals as goal

pub loop-change-preserved : goal.loop-change-preserved
loop-change-preserved c =
    written_more c.args.table.now c.loop-change.table c.write_change.new.table c.args.changes.now c.loop-change.change-index _ _ c.loop-change-test.true
    refl c.loop-change.invariant c.write_change.ensures
