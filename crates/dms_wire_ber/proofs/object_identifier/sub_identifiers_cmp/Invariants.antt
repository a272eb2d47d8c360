use Rattle.std.proofs.Common.{◌≡◌, true, length}
use Rattle.dms_wire_ber.specs.NameReading.{sub_identifiers_after}
use Rattle.dms_wire_ber.specs.NameWalk.{fits_after}
use Rattle.dms_wire_ber.specs.NameOrder.{numbers_cmp}
use Rattle.dms_wire_ber.proofs.object_identifier.sub_identifiers_cmp.Given as goal

abbrev pub invariant-loop-x : goal.invariant-loop-x
invariant-loop-x l = record {
  same : numbers_cmp (sub_identifiers_after 0 l.left) (sub_identifiers_after 0 l.right)
      ≡ numbers_cmp (sub_identifiers_after 0 l.a) (sub_identifiers_after 0 l.b);
  left_fits : fits_after 0 l.left ≡ true;
  right_fits : fits_after 0 l.right ≡ true;
}

abbrev pub decreases-loop-x : goal.decreases-loop-x
decreases-loop-x l = length l.left
