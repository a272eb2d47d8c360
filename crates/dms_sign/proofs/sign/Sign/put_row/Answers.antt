use Rattle.std.proofs.Common.{arith}
use Rattle.dms_table.specs.SavedRows.{row_saved}
use Rattle.dms_sign.proofs.TakenUp.{put_whole}
use Rattle.dms_sign.proofs.sign.Sign.put_row.Goals as goal

pub invariant_of-self-2 : goal.invariant_of-self-2
invariant_of-self-2 c =
    put_whole c.self.inside c.args.id (row_saved c.args.row.now) c.put_row.new.self c.forget.new.self c.self.invariant (omega arith)
    c.are_octets.ensures.text c.are_octets.ensures.owner c.in_ok-put_row.ensures.faultless c.in_ok-put_row.ensures.ok c.forget.ensures
