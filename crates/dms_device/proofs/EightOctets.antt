-- The order of names by eight octets that are compared as one number.
use Rattle.std.proofs.Common.{◌≡◌, ℕ, zero, suc, ◌+◌, ◌-◌, ◌*◌, ◌<◌, ◌≤◌, ◌==◌, ◌⊎◌, inl, inr, false, List, take, length, get_or, bit_and, ap, ap₂, subst, sym, ◌∙◌, arith}
use Rattle.std.specs.Prelude.{nat_lt, nat_eq}
use Rattle.std.specs.Cmp.Lexicographic.{pointwise, bytes_decides}
use Rattle.std.proofs.Math.Seq.{take-take, take-length}
use Rattle.std.proofs.lemmas.Bool.{cases_lt, false_from_ne_true}
use Rattle.std.specs.Cmp.{both_ways}
use Rattle.std.proofs.lemmas.Bool.Decides.{nat_tests}
use Rattle.std.proofs.lemmas.List.{take_more_same}
use Rattle.std.proofs.lemmas.Nat.{and_block, and_le_r}
use Rattle.std.proofs.lemmas.Nat.Bits.{bit_at_and, and_pow}
use Rattle.dms_wire_ber.specs.NameOrder.{is_before}
use Rattle.dms_wire_ber.specs.ObjectIdentifier.{IsName}
use Rattle.dms_wire_ber.specs.NameReading.{numbers_of}
use Rattle.dms_device.specs.View.{number_of_octets, eight_octets}
use Rattle.dms_device.proofs.FirstOctets.{above, below, octets_differ}

abbrev pub AreOctets : List ℕ → Type 0
AreOctets xs = (k : ℕ) → get_or xs k 0 < 256

-- ---- the number

-- of two numbers the one that begins with the smaller one is the smaller one
grows : (n a b : ℕ) (xs ys : List ℕ) (at k : ℕ) → AreOctets xs → a < b → number_of_octets n a xs at k < number_of_octets n b ys at k
grows zero a b xs ys at k octets lt = lt
grows (suc n) a b xs ys at k octets lt =
    grows n (a * 256 + get_or xs (at + k) 0) (b * 256 + get_or ys (at + k) 0) xs ys at (suc k) octets (omega (arith, octets (at + k)))

-- the same numbers begin with the same one
same_front : (n a b : ℕ) (xs ys : List ℕ) (at k : ℕ) → AreOctets xs → AreOctets ys
    → number_of_octets n a xs at k ≡ number_of_octets n b ys at k → a ≡ b
same_front n a b xs ys at k left right e =
    elim (cases_lt a b) [
      | inl lt ↦ absurd (omega (arith, grows n a b xs ys at k left lt))
      | inr le ↦
          elim (cases_lt b a) [
            | inl lt ↦ absurd (omega (arith, grows n b a ys xs at k right lt))
            | inr more ↦ omega arith
          ]
    ]

one_more : (xs ys : List ℕ) (at k : ℕ) → take (at + k) xs ≡ take (at + k) ys → at + k < length xs → at + k < length ys
    → get_or xs (at + k) 0 ≡ get_or ys (at + k) 0 → take (at + suc k) xs ≡ take (at + suc k) ys
one_more xs ys at k same less lower e =
    let next : at + k + 1 ≡ at + suc k = omega arith in
    subst (λ i. take i xs ≡ take i ys) next (take_more_same xs ys (at + k) 0 less lower same e)

same_further : (n a b : ℕ) (xs ys : List ℕ) (at k : ℕ) → AreOctets xs → AreOctets ys → a ≡ b → take (at + k) xs ≡ take (at + k) ys
    → at + k + n ≤ length xs → at + k + n ≤ length ys → number_of_octets n a xs at k ≡ number_of_octets n b ys at k
    → take (at + k + n) xs ≡ take (at + k + n) ys
same_further zero a b xs ys at k left right front same less lower e =
    let none : at + k ≡ at + k + 0 = omega arith in
    subst (λ i. take i xs ≡ take i ys) none same
same_further (suc n) a b xs ys at k left right front same less lower e =
    let x = get_or xs (at + k) 0 in
    let y = get_or ys (at + k) 0 in
    let whole : a * 256 + x ≡ b * 256 + y = same_front n (a * 256 + x) (b * 256 + y) xs ys at (suc k) left right e in
    let further : at + suc k + n ≡ at + k + suc n = omega arith in
    subst (λ i. take i xs ≡ take i ys) further
    (same_further n (a * 256 + x) (b * 256 + y) xs ys at (suc k) left right whole
    (one_more xs ys at k same (omega arith) (omega arith) (omega arith)) (omega arith) (omega arith) e)

pub same_eight : (xs ys : List ℕ) (at : ℕ) → AreOctets xs → AreOctets ys → take at xs ≡ take at ys → at + 8 ≤ length xs → at + 8 ≤ length ys
    → eight_octets xs at ≡ eight_octets ys at → take (at + 8) xs ≡ take (at + 8) ys
same_eight xs ys at left right same less lower e =
    let here : at ≡ at + 0 = omega arith in
    let there : at + 0 + 8 ≡ at + 8 = omega arith in
    subst (λ i. take i xs ≡ take i ys) there
    (same_further 8 0 0 xs ys at 0 left right (omega arith) (subst (λ i. take i xs ≡ take i ys) here same) (omega arith) (omega arith) e)

-- ---- lists that are the same

whole : (xs ys : List ℕ) (size : ℕ) → size ≡ length xs → size ≡ length ys → take size xs ≡ take size ys → xs ≡ ys
whole xs ys size one other same =
    sym (ap (λ i. take i xs) one ∙ take-length xs) ∙ same ∙ ap (λ i. take i ys) other ∙ take-length ys

shorter : (xs ys : List ℕ) (i j : ℕ) → i ≤ j → take j xs ≡ take j ys → take i xs ≡ take i ys
shorter xs ys i j le same = sym (take-take i j xs le) ∙ ap (take i) same ∙ take-take i j ys le

pub eight_differ : (xs ys : List ℕ) (at : ℕ) → (eight_octets xs at ≡ eight_octets ys at → ⊥) → false ≡ pointwise nat_eq xs ys
eight_differ xs ys at differ =
    sym (false_from_ne_true (pointwise nat_eq xs ys) λ e. differ (ap (λ l. eight_octets l at) ((bytes_decides xs ys).0 e)))

-- the last eight of octets of which all but fewer are the same
pub last_eight : (xs ys : List ℕ) (at size : ℕ) → AreOctets xs → AreOctets ys → size ≡ length xs → size ≡ length ys → 8 ≤ size → size - at < 8
    → take at xs ≡ take at ys → (eight_octets xs (size - 8) == eight_octets ys (size - 8)) ≡ pointwise nat_eq xs ys
last_eight xs ys at size left right one other many few same =
    let x = eight_octets xs (size - 8) in
    let y = eight_octets ys (size - 8) in
    let end : size - 8 + 8 ≡ size = omega arith in
    let all : x ≡ y → xs ≡ ys = λ e.
    whole xs ys size one other
    (subst (λ i. take i xs ≡ take i ys) end
    (same_eight xs ys (size - 8) left right (shorter xs ys (size - 8) at (omega arith) same) (omega arith) (omega arith) e)) in
    both_ways (x == y) (pointwise nat_eq xs ys) (λ e. (bytes_decides xs ys).1 (all (grind (arith, e, nat_tests))))
    (λ e. grind (arith, nat_tests, ap (λ l. eight_octets l (size - 8)) ((bytes_decides xs ys).0 e)))

-- ---- the highest bits

-- those of so many octets, behind those of others
abbrev high_bits : ℕ → ℕ → ℕ
high_bits zero number = number
high_bits (suc n) number = high_bits n (number * 256 + 128)

last_apart : (a b m x y : ℕ) → x < 256 → y < 256
    → bit_and (bit_and (a * 256 + x) (b * 256 + y)) (m * 256 + 128) ≡ bit_and (bit_and a b) m * 256 + bit_and (bit_and x y) 128
last_apart a b m x y left right =
    ap (λ number. bit_and number (m * 256 + 128)) (and_block 8 a b x y left right)
    ∙ and_block 8 (bit_and a b) m (bit_and x y) 128 (omega (arith, and_le_r x y)) (omega arith)

-- where numbers have no highest bit in common, what they begin with has none
none_in_front : (n a b m : ℕ) (xs ys : List ℕ) (at k : ℕ) → AreOctets xs → AreOctets ys
    → bit_and (bit_and (number_of_octets n a xs at k) (number_of_octets n b ys at k)) (high_bits n m) ≡ 0 → bit_and (bit_and a b) m ≡ 0
none_in_front zero a b m xs ys at k left right e = e
none_in_front (suc n) a b m xs ys at k left right e =
    let x = get_or xs (at + k) 0 in
    let y = get_or ys (at + k) 0 in
    omega (
      arith,
      last_apart a b m x y (left (at + k)) (right (at + k)),
      none_in_front n (a * 256 + x) (b * 256 + y) (m * 256 + 128) xs ys at (suc k) left right e,
    )

-- one of two octets that have not both the highest bit is below 128
one_is_low : (x y : ℕ) → x < 256 → y < 256 → bit_and (bit_and x y) 128 ≡ 0 → (x < 128) ⊎ (y < 128)
one_is_low x y left right e =
    elim (cases_lt x 128) [
      | inl low ↦ inl low
      | inr high ↦
          elim (cases_lt y 128) [
            | inl low ↦ inr low
            | inr too ↦ absurd (omega (arith, and_pow (bit_and x y) 7, bit_at_and x y 7))
          ]
    ]

-- ---- the order

decided : (n a b m : ℕ) (xs ys : List ℕ) (at k : ℕ) → IsName (numbers_of xs) xs → IsName (numbers_of ys) ys → AreOctets xs → AreOctets ys
    → a ≡ b → take (at + k) xs ≡ take (at + k) ys → at + k + n ≤ length xs → at + k + n ≤ length ys
    → bit_and (bit_and (number_of_octets n a xs at k) (number_of_octets n b ys at k)) (high_bits n m) ≡ 0
    → (number_of_octets n a xs at k ≡ number_of_octets n b ys at k → ⊥)
    → nat_lt (number_of_octets n a xs at k) (number_of_octets n b ys at k) ≡ is_before (numbers_of xs) (numbers_of ys)
decided zero a b m xs ys at k one other left right front same less lower low apart = absurd (apart front)
decided (suc n) a b m xs ys at k one other left right front same less lower low apart =
    let x = get_or xs (at + k) 0 in
    let y = get_or ys (at + k) 0 in
    let a' = a * 256 + x in
    let b' = b * 256 + y in
    let whole = none_in_front n a' b' (m * 256 + 128) xs ys at (suc k) left right low in
    let lowest : (x < 128) ⊎ (y < 128) =
    one_is_low x y (left (at + k)) (right (at + k)) (omega (arith, whole, last_apart a b m x y (left (at + k)) (right (at + k)))) in
    let by_octet : (x ≡ y → ⊥) → nat_lt x y ≡ is_before (numbers_of xs) (numbers_of ys) = λ differ.
    octets_differ xs ys (at + k) one other same (omega arith) (omega arith) differ lowest in
    elim (cases_lt x y) [
      | inl lt ↦
          below (number_of_octets n a' xs at (suc k)) (number_of_octets n b' ys at (suc k)) (grows n a' b' xs ys at (suc k) left (omega arith))
          ∙ sym (below x y lt) ∙ by_octet (λ e. omega arith)
      | inr le ↦
          elim (cases_lt y x) [
            | inl lt ↦
                above (number_of_octets n a' xs at (suc k)) (number_of_octets n b' ys at (suc k)) (grows n b' a' ys xs at (suc k) right (omega arith))
                ∙ sym (above x y lt) ∙ by_octet (λ e. omega arith)
            | inr more ↦
                decided n a' b' (m * 256 + 128) xs ys at (suc k) one other left right (omega arith)
                (one_more xs ys at k same (omega arith) (omega arith) (omega arith)) (omega arith) (omega arith) low apart
          ]
    ]

-- where they differ and at none of their places numbers go on behind both
pub eight_decide : (xs ys : List ℕ) (at x y : ℕ) → IsName (numbers_of xs) xs → IsName (numbers_of ys) ys → AreOctets xs → AreOctets ys
    → take at xs ≡ take at ys → at + 8 ≤ length xs → at + 8 ≤ length ys → x ≡ eight_octets xs at → y ≡ eight_octets ys at
    → bit_and (bit_and x y) 0x8080_8080_8080_8080 ≡ 0 → (x ≡ y → ⊥) → nat_lt x y ≡ is_before (numbers_of xs) (numbers_of ys)
eight_decide xs ys at x y one other left right same less lower x_is y_is low apart =
    let here : at ≡ at + 0 = omega arith in
    let low_too : bit_and (bit_and (eight_octets xs at) (eight_octets ys at)) 0x8080_8080_8080_8080 ≡ 0 =
    sym (ap₂ (λ (a b : ℕ). bit_and (bit_and a b) 0x8080_8080_8080_8080) x_is y_is) ∙ low in
    ap₂ nat_lt x_is y_is
    ∙ decided 8 0 0 0 xs ys at 0 one other left right (omega arith) (subst (λ i. take i xs ≡ take i ys) here same) (omega arith) (omega arith)
    low_too (λ e. apart (x_is ∙ e ∙ sym y_is))
