-- The octets of a code, place by place.
use Rattle.std.proofs.Common.{◌≡◌, ℕ, suc, List, [], ◌∷◌, ◌++◌, length, get_or, ap, rules, arith}
use Rattle.std.proofs.lemmas.Slice.Eq.{text_from_reads}
use Rattle.dms_codes.specs.declared.codes.Order.{Order}
use Rattle.dms_codes.specs.declared.codes.MessageId.{MessageId}
use Rattle.dms_codes.specs.declared.codes.Activation.{Activation}
use Rattle.dms_codes.specs.Codes.{two_octets, octets_of_checksum, octets_of_id, octets_of_activation}

length-octets_of_checksum : (order : Order) (n : ℕ) → length (octets_of_checksum order n) ≡ 2
length-octets_of_checksum order n = grind arith

length-octets_of_id : (order : Order) (id : MessageId) → length (octets_of_id order id) ≡ 5
length-octets_of_id order id = ap (λ n. suc (suc (suc n))) (length-octets_of_checksum order id.crc)

abbrev first_four : List ℕ → List ℕ
first_four xs = get_or xs 0 0 ∷ get_or xs 1 0 ∷ get_or xs 2 0 ∷ get_or xs 3 0 ∷ []

abbrev first_five : List ℕ → List ℕ
first_five xs = get_or xs 0 0 ∷ get_or xs 1 0 ∷ get_or xs 2 0 ∷ get_or xs 3 0 ∷ get_or xs 4 0 ∷ []

pub all_four : (xs : List ℕ) → length xs ≡ 4 → xs ≡ first_four xs
all_four xs h = text_from_reads xs (first_four xs) h (search rules)

all_five : (xs : List ℕ) → length xs ≡ 5 → xs ≡ first_five xs
all_five xs h = text_from_reads xs (first_five xs) h (search rules)

-- an activation written place by place
pub written : (order : Order) (a : Activation) (minutes id : List ℕ) → length a.address ≡ 4 → minutes ≡ two_octets a.minutes → id ≡ octets_of_id order a.id
    → get_or minutes 0 0 ∷ get_or minutes 1 0 ∷ a.priority ∷ (first_five id ++ first_four a.address) ≡ octets_of_activation order a
written order a minutes id four p q = grind (arith, length-octets_of_id, get_or, all_five, all_four)
