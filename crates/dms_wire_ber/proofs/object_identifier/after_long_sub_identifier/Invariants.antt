use Rattle.std.proofs.Common.{◌≡◌, ◌≤◌, length}
use Rattle.dms_wire_ber.specs.NameReading.{goes_on}
use Rattle.dms_wire_ber.proofs.object_identifier.after_long_sub_identifier.Given as goal

abbrev pub invariant-loop-rest : goal.invariant-loop-rest
invariant-loop-rest l = record {
  same : goes_on l.count l.number l.rest ≡ goes_on l.count 0 l.octets;
  begun : l.number ≡ 0 → length l.rest ≡ length l.octets;
  shorter : length l.rest ≤ length l.octets;
}

abbrev pub decreases-loop-rest : goal.decreases-loop-rest
decreases-loop-rest l = length l.rest
