use Rattle.std.proofs.Common.{length}
use Rattle.dms_mib_replies.specs.Replies.{has_no_value_by, with_value_by}
use Rattle.dms_mib_replies.proofs.Walks.{HasFound}
use Rattle.dms_mib_replies.proofs.answering.values_of.Given as goal

abbrev pub invariant-loop-name : goal.invariant-loop-name
invariant-loop-name g l = HasFound (has_no_value_by (g.O.Objects.reads l.objects)) (with_value_by (g.O.Objects.reads l.objects)) l.binds l.octets l.index l.rest

abbrev pub decreases-loop-name : goal.decreases-loop-name
decreases-loop-name g l = length l.rest
