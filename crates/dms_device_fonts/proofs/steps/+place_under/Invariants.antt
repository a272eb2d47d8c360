use Rattle.std.proofs.Common.{length}
use Rattle.dms_device_fonts.proofs.steps.+place_under.Given as goal

abbrev pub decreases-place_under : goal.decreases-place_under
decreases-place_under a = length a.node.now
