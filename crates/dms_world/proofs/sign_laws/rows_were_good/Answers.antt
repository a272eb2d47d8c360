use Rattle.dms_world.proofs.WorldSignGood.{valid_rows_were_good}
use Rattle.dms_world.proofs.sign_laws.rows_were_good.Goals as goal

pub returns : goal.returns
returns c = valid_rows_were_good
