use Rattle.std.proofs.Common.{length}
use Rattle.dms_mib_replies.specs.Replies.{is_last_by, next_after_by}
use Rattle.dms_mib_replies.proofs.Walks.{HasFound}
use Rattle.dms_mib_replies.proofs.answering.values_after.Given as goal

abbrev pub invariant-loop-name : goal.invariant-loop-name
invariant-loop-name g l = HasFound (is_last_by (g.O.Objects.follows l.objects)) (next_after_by (g.O.Objects.follows l.objects)) l.binds l.octets l.index l.rest

abbrev pub decreases-loop-name : goal.decreases-loop-name
decreases-loop-name g l = length l.rest
