use Rattle.dms_table.specs.Rows.{may_ask}
use Rattle.dms_table.proofs.Memories.{asked_keeps_permanent}
use Rattle.dms_table.proofs.laws.permanent_rows_stay.Goals as goal

pub returns-clause-asked : goal.returns-clause-asked
returns-clause-asked c = λ old new id ask e. asked_keeps_permanent (may_ask old ask) old new id ask e
