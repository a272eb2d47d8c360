use Rattle.std.proofs.Common.{◌≡◌, ◌≤◌, true, length}
use Rattle.dms_wire_ber.specs.NameReading.{sub_identifiers_after}
use Rattle.dms_wire_ber.specs.NameWalk.{fits_after}
use Rattle.dms_wire_ber.proofs.object_identifier.first_long_sub_identifier.Given as goal

abbrev pub invariant-loop-rest : goal.invariant-loop-rest
invariant-loop-rest l = record {
  same : sub_identifiers_after l.number l.rest ≡ sub_identifiers_after 0 l.octets;
  fits : fits_after l.number l.rest ≡ true;
  shorter : length l.rest ≤ length l.octets;
}

abbrev pub decreases-loop-rest : goal.decreases-loop-rest
decreases-loop-rest l = length l.rest
