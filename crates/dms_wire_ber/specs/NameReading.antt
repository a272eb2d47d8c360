-- Reading an object identifier's content octet by octet, on lists (X.690, 8.19).
use Rattle.std.specs.Prelude.{ℕ, ◌+◌, ◌*◌, ◌%◌, ◌^◌, Bool, false, ◌&&◌, ◌||◌, nat_lt, nat_le}
use Rattle.std.specs.Prelude.{◌==◌, List, [], ◌∷◌, Option, Some, None, if◌then◌else◌}
use Rattle.std.specs.Option.{option_map_or}
use Rattle.dms_wire_ber.specs.ObjectIdentifier.{numbers_from}
use Rattle.dms_wire_ber.specs.Limits.{most_sub_identifiers}

-- The numbers that the octets are in base 128, each up to an octet below 128. n is what came of the first.
abbrev pub sub_identifiers_after : ℕ → List ℕ → List ℕ
sub_identifiers_after n [] = []
sub_identifiers_after n (b ∷ bs) =
    (if nat_lt b 128 then (n * 128 + b) ∷ sub_identifiers_after 0 bs else sub_identifiers_after (n * 128 + b % 128) bs)

abbrev pub numbers_of : List ℕ → List ℕ
numbers_of bs = numbers_from (sub_identifiers_after 0 bs)

-- One octet more: how many sub-identifiers came, and what came of the next; none where the octet is out of place.
abbrev pub part_after : ℕ → ℕ → ℕ → Option (ℕ × ℕ)
part_after count n b =
    if nat_le 256 b || nat_le (2 ^ 32) (n * 128 + b % 128) || (b == 128 && n == 0) then None
    else if nat_le 128 b then Some (count, n * 128 + b % 128)
    else if nat_lt count most_sub_identifiers then Some (count + 1, 0)
    else None

-- whether the octets go on as a name's content
unfoldable pub goes_on : ℕ → ℕ → List ℕ → Bool
goes_on count n [] = (n == 0) && nat_lt 0 count
goes_on count n (b ∷ bs) = option_map_or (λ p. goes_on p.0 p.1 bs) (part_after count n b) false

abbrev pub is_name : List ℕ → Bool
is_name bs = goes_on 0 0 bs
