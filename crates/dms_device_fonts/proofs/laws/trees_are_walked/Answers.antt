use Rattle.dms_device_fonts.proofs.TreeWalks.{tree_walk}
use Rattle.dms_device_fonts.proofs.laws.trees_are_walked.Goals as goal

pub returns : goal.returns
returns c = tree_walk
