use Rattle.dms_sign_access.proofs.Settable.{settable}
use Rattle.dms_sign_access.proofs.laws.settable_objects_are_those_of_the_table.Goals as goal

pub returns : goal.returns
returns c = settable
