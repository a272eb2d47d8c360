-- What octets spell as a name is in the limits.
use Rattle.std.proofs.Common.{ℕ, ◌^◌, ◌<◌, ◌≤◌, List, [], ◌∷◌, length, arith}
use Rattle.std.specs.Int.Digits.{AllBelowBase}
use Rattle.dms_wire_ber.specs.ObjectIdentifier.{AreSubIdentifiers, IsName, numbers_from}
use Rattle.dms_wire_ber.specs.ObjectIdentifier.{IsNameInLimits}
use Rattle.dms_wire_ber.specs.Limits.{most_sub_identifiers}

sub_identifiers_small : (ns bytes : List ℕ) → AreSubIdentifiers ns bytes → AllBelowBase (2 ^ 32) ns
sub_identifiers_small [] bytes are = tt
sub_identifiers_small (n ∷ ns) bytes are = (are.2, sub_identifiers_small ns are.1 are.4)

numbers_within : (n : ℕ) (ns : List ℕ) → n < 2 ^ 32 → AllBelowBase (2 ^ 32) ns → length ns ≤ 126 → IsNameInLimits (numbers_from (n ∷ ns))
numbers_within n ns first small few = grind arith

sub_identifiers_within : (ns : List ℕ) → 0 < length ns → length ns ≤ most_sub_identifiers → AllBelowBase (2 ^ 32) ns → IsNameInLimits (numbers_from ns)
sub_identifiers_within ns some few small = grind arith

pub name_within : (numbers bytes : List ℕ) → IsName numbers bytes → IsNameInLimits numbers
name_within numbers bytes is = grind (arith, sub_identifiers_within, sub_identifiers_small)
