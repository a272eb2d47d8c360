use Rattle.dms_world.proofs.WorldSignRows.{one_at_all}
use Rattle.dms_world.proofs.sign_laws.one_row_is_validating.Goals as goal

pub returns : goal.returns
returns c = one_at_all
