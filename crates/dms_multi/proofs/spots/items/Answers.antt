use Rattle.dms_multi.proofs.Readings.{is_reading}
use Rattle.dms_multi.proofs.spots.items.Goals as goal

pub returns-clause-spelled : goal.returns-clause-spelled
returns-clause-spelled c = is_reading c.args.text.now
