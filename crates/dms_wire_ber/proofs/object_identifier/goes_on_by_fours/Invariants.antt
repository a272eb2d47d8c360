use Rattle.std.proofs.Common.{◌≡◌, ◌≤◌, length}
use Rattle.dms_wire_ber.specs.NameReading.{goes_on}
use Rattle.dms_wire_ber.proofs.object_identifier.goes_on_by_fours.Given as goal
use Rattle.dms_wire_ber.specs.Limits.{most_sub_identifiers}

-- what is left decides
abbrev pub invariant-loop-others : goal.invariant-loop-others
invariant-loop-others l = (goes_on l.count 0 l.rest ≡ goes_on l.before 0 l.octets) × (l.count ≤ most_sub_identifiers)

abbrev pub decreases-loop-others : goal.decreases-loop-others
decreases-loop-others l = length l.rest
