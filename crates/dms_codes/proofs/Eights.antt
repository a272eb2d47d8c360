-- Division is linear, so each octet goes into the register by itself: through the table of what follows it.
use Rattle.std.proofs.Common.{◌≡◌, ℕ, zero, suc, ◌+◌, ◌/◌, ◌%◌, ◌^◌, ◌<◌, ◌≤◌, Bool, true, false, List, [], ◌∷◌, ◌++◌, length, map, flat_map, get_or, bit_xor, refl, ap, sym, subst, ◌∙◌, arith, rules, zero-add, ◌-◌, take, drop, take_all, length-take, length-drop}
use Rattle.std.specs.Prelude.{nat_lt}
use Rattle.std.specs.List.{list_all}
use lib.Bits.{xor_zero_l, xor_zero_r, xor_assoc}
use Rattle.std.proofs.lemmas.Nat.{xor_lt}
use Rattle.std.proofs.lemmas.List.{get_or-map, length-map, take-append-drop, get_or-take}
use Rattle.std.proofs.lemmas.Grind.{flat_map-append}
use Rattle.std.proofs.lemmas.Bool.Decides.{nat_tests}
use Rattle.std.proofs.lemmas.Slice.Eq.{text_from_reads}
use Rattle.dms_codes.specs.declared.checksum.TheConstants.{REMAINDERS}
use Rattle.dms_codes.specs.declared.octet_tables.TheConstants.{BEFORE_ONE, BEFORE_TWO, BEFORE_THREE, BEFORE_FOUR, BEFORE_FIVE, BEFORE_SIX, BEFORE_SEVEN}
use Rattle.dms_codes.specs.Checksum.{low_bits, octet_bits, sum_of_bits, add, divisor, divided}
use Rattle.dms_codes.specs.Register.{TakesIn}
use Rattle.dms_codes.proofs.Bits.{low_bits-xor, low_bits-mod, add_assoc_bits, add-append, length-add, add_zeros}
use Rattle.dms_codes.proofs.Division.{takes_both}
use Rattle.dms_codes.proofs.Remainders.{takes_octet, split}

-- ---- sums

sum_swap : (a b c : Bool) → sum_of_bits a (sum_of_bits b c) ≡ sum_of_bits b (sum_of_bits a c)
sum_swap a b c = grind arith

sum_cancels : (a b c : Bool) → sum_of_bits (sum_of_bits a b) (sum_of_bits a c) ≡ sum_of_bits b c
sum_cancels a b c = grind arith

sum_assoc : (a b c : Bool) → sum_of_bits a (sum_of_bits b c) ≡ sum_of_bits (sum_of_bits a b) c
sum_assoc a b c = grind arith

add_swap : (a b c : List Bool) → length b ≡ length c → add a (add b c) ≡ add b (add a c)
add_swap [] b c h = refl
add_swap (t ∷ a) [] [] h = refl
add_swap (t ∷ a) [] (y ∷ c) h = absurd (omega arith)
add_swap (t ∷ a) (x ∷ b) [] h = absurd (omega arith)
add_swap (t ∷ a) (x ∷ b) (y ∷ c) h =
    ap (λ bit. bit ∷ add a (add b c)) (sum_swap t x y) ∙ ap (λ rest. sum_of_bits x (sum_of_bits t y) ∷ rest) (add_swap a b c (omega arith))

add_cancels : (a b c : List Bool) → length b ≡ length c → add (add a b) (add a c) ≡ add b c
add_cancels [] b c h = refl
add_cancels (t ∷ a) [] [] h = refl
add_cancels (t ∷ a) [] (y ∷ c) h = absurd (omega arith)
add_cancels (t ∷ a) (x ∷ b) [] h = absurd (omega arith)
add_cancels (t ∷ a) (x ∷ b) (y ∷ c) h =
    ap (λ bit. bit ∷ add (add a b) (add a c)) (sum_cancels t x y) ∙ ap (λ rest. sum_of_bits x y ∷ rest) (add_cancels a b c (omega arith))

add_assoc_same : (a b c : List Bool) → length b ≡ length c → add a (add b c) ≡ add (add a b) c
add_assoc_same [] b c h = refl
add_assoc_same (t ∷ a) [] [] h = refl
add_assoc_same (t ∷ a) [] (y ∷ c) h = absurd (omega arith)
add_assoc_same (t ∷ a) (x ∷ b) [] h = absurd (omega arith)
add_assoc_same (t ∷ a) (x ∷ b) (y ∷ c) h =
    ap (λ bit. bit ∷ add a (add b c)) (sum_assoc t x y) ∙ ap (λ rest. sum_of_bits (sum_of_bits t x) y ∷ rest) (add_assoc_same a b c (omega arith))

-- A division of a sum is the sum of two.
divided_sum : (n : ℕ) (p q : List Bool) → length p ≡ length q → divided n (add p q) ≡ add (divided n p) (divided n q)
divided_sum zero p q h = refl
divided_sum (suc n) [] [] h = refl
divided_sum (suc n) [] (y ∷ q) h = absurd (omega arith)
divided_sum (suc n) (x ∷ p) [] h = absurd (omega arith)
divided_sum (suc n) (false ∷ p) (false ∷ q) h = divided_sum n p q (omega arith)
divided_sum (suc n) (true ∷ p) (false ∷ q) h =
    ap (divided n) (add_assoc_same divisor p q (omega arith)) ∙ divided_sum n (add divisor p) q (omega (arith, length-add divisor p))
divided_sum (suc n) (false ∷ p) (true ∷ q) h =
    ap (divided n) (add_swap divisor p q (omega arith)) ∙ divided_sum n p (add divisor q) (omega (arith, length-add divisor q))
divided_sum (suc n) (true ∷ p) (true ∷ q) h =
    ap (divided n) (sym (add_cancels divisor p q (omega arith)))
    ∙ divided_sum n (add divisor p) (add divisor q) (omega (arith, length-add divisor p, length-add divisor q))

-- ---- bits that are all 0

abbrev none_of : List Bool → List Bool
none_of bits = map (λ (bit : Bool). false) bits

add_none : (bits more : List Bool) → add (none_of bits) more ≡ more
add_none [] more = refl
add_none (b ∷ bits) [] = refl
add_none (b ∷ bits) (x ∷ more) = ap (λ rest. x ∷ rest) (add_none bits more)

none-append : (a b : List Bool) → none_of (a ++ b) ≡ none_of a ++ none_of b
none-append [] b = refl
none-append (x ∷ a) b = ap (λ rest. false ∷ rest) (none-append a b)

-- Two registers go on as their sum, where the bits are those of one of them and the other has none.
takes_sum : (bits : List Bool) (a a' b b' : ℕ) → TakesIn (none_of bits) a a' → TakesIn bits b b' → TakesIn bits (bit_xor a b) (bit_xor a' b')
takes_sum bits a a' b b' first second = record {
  leaves = λ rest.
      let all = bits ++ rest in
      let none = none_of bits ++ none_of rest in
      let other = add (low_bits 16 b) all in
      let same : length none ≡ length other = omega (arith, length-add (low_bits 16 b) all, length-map all (λ (bit : Bool). false), ap length (none-append bits rest)) in
      let short : length (none_of rest) ≡ length (add (low_bits 16 b') rest) = omega (arith, length-add (low_bits 16 b') rest, length-map rest (λ (bit : Bool). false)) in
      let apart : length (add (low_bits 16 a) none) ≡ length other = omega (arith, length-add (low_bits 16 a) none, same) in
      let counted : length (none_of bits) ≡ length bits = length-map bits (λ (bit : Bool). false) in
      let zeros : add none other ≡ other = ap (λ z. add z other) (sym (none-append bits rest)) ∙ add_none all other in
      ap (λ terms. divided (length bits) (add terms all)) (low_bits-xor 16 a b)
      ∙ ap (divided (length bits)) (sym (add_assoc_bits (low_bits 16 a) (low_bits 16 b) all (omega arith)))
      ∙ ap (λ more. divided (length bits) (add (low_bits 16 a) more)) (sym zeros)
      ∙ ap (divided (length bits)) (add_assoc_same (low_bits 16 a) none other same)
      ∙ divided_sum (length bits) (add (low_bits 16 a) none) other apart
      ∙ ap (λ left. add left (divided (length bits) other)) (ap (λ n. divided n (add (low_bits 16 a) none)) (sym counted) ∙ first.leaves (none_of rest))
      ∙ ap (add (add (low_bits 16 a') (none_of rest))) (second.leaves rest)
      ∙ sym (add_assoc_same (low_bits 16 a') (none_of rest) (add (low_bits 16 b') rest) short)
      ∙ ap (add (low_bits 16 a')) (add_none rest (add (low_bits 16 b') rest))
      ∙ add_assoc_bits (low_bits 16 a') (low_bits 16 b') rest (omega arith)
      ∙ ap (λ terms. add terms rest) (sym (low_bits-xor 16 a' b'));
}

-- ---- the tables

-- the register after an octet of zeros
abbrev later : ℕ → ℕ
later register = bit_xor (get_or REMAINDERS (register % 2 ^ 8) 0) (register / 2 ^ 8)

-- what an octet leaves, and so many octets of zeros after it
abbrev level : ℕ → ℕ → ℕ
level zero octet = get_or REMAINDERS octet 0
level (suc k) octet = later (level k octet)

small_at : (xs : List ℕ) (i : ℕ) → list_all (λ x. nat_lt x 65536) xs ≡ true → get_or xs i 0 < 2 ^ 16
small_at [] i all = omega arith
small_at (x ∷ xs) zero all = grind (arith, nat_tests)
small_at (x ∷ xs) (suc i) all = small_at xs i (grind arith)

remainder_small : (i : ℕ) → get_or REMAINDERS i 0 < 2 ^ 16
remainder_small i = small_at REMAINDERS i refl

level_small : (k octet : ℕ) → level k octet < 2 ^ 16
level_small zero octet = remainder_small octet
level_small (suc k) octet =
    xor_lt 16 (get_or REMAINDERS (level k octet % 2 ^ 8) 0) (level k octet / 2 ^ 8) (remainder_small (level k octet % 2 ^ 8)) (omega (arith, level_small k octet))

table_later : (table next : List ℕ) (k octet : ℕ) → octet < length table → next ≡ map later table → get_or table octet 0 ≡ level k octet
    → get_or next octet 0 ≡ level (suc k) octet
table_later table next k octet within is before = ap (λ l. get_or l octet 0) is ∙ get_or-map later table octet 0 0 within ∙ ap later before

pub before_one : (octet : ℕ) → octet < 256 → get_or BEFORE_ONE octet 0 ≡ level 1 octet
before_one octet h = table_later REMAINDERS BEFORE_ONE 0 octet h refl (refl)

pub before_two : (octet : ℕ) → octet < 256 → get_or BEFORE_TWO octet 0 ≡ level 2 octet
before_two octet h = table_later BEFORE_ONE BEFORE_TWO 1 octet h refl (before_one octet h)

pub before_three : (octet : ℕ) → octet < 256 → get_or BEFORE_THREE octet 0 ≡ level 3 octet
before_three octet h = table_later BEFORE_TWO BEFORE_THREE 2 octet h refl (before_two octet h)

pub before_four : (octet : ℕ) → octet < 256 → get_or BEFORE_FOUR octet 0 ≡ level 4 octet
before_four octet h = table_later BEFORE_THREE BEFORE_FOUR 3 octet h refl (before_three octet h)

pub before_five : (octet : ℕ) → octet < 256 → get_or BEFORE_FIVE octet 0 ≡ level 5 octet
before_five octet h = table_later BEFORE_FOUR BEFORE_FIVE 4 octet h refl (before_four octet h)

pub before_six : (octet : ℕ) → octet < 256 → get_or BEFORE_SIX octet 0 ≡ level 6 octet
before_six octet h = table_later BEFORE_FIVE BEFORE_SIX 5 octet h refl (before_five octet h)

pub before_seven : (octet : ℕ) → octet < 256 → get_or BEFORE_SEVEN octet 0 ≡ level 7 octet
before_seven octet h = table_later BEFORE_SIX BEFORE_SEVEN 6 octet h refl (before_six octet h)

-- ---- octets

-- zeros after an octet
takes_zeros : (octets : List ℕ) (k octet : ℕ) → TakesIn (none_of (flat_map octet_bits octets)) (level k octet) (level (k + length octets) octet)
unfolding octet_bits
takes_zeros [] k octet =
    let all : k ≡ k + 0 = omega arith in
    subst (λ n. TakesIn [] (level k octet) (level n octet)) all (record { leaves = λ rest. refl })
takes_zeros (o ∷ octets) k octet =
    let first : TakesIn (octet_bits 0) (level k octet) (level (suc k) octet) =
    takes_octet (level k octet) 0 (level k octet % 2 ^ 8) (level_small k octet) (ap (λ n. n % 2 ^ 8) (sym (xor_zero_r (level k octet)))) in
    let bits : none_of (flat_map octet_bits (o ∷ octets)) ≡ octet_bits 0 ++ none_of (flat_map octet_bits octets) = none-append (octet_bits o) (flat_map octet_bits octets) in
    let count : suc k + length octets ≡ k + suc (length octets) = omega arith in
    subst (λ all. TakesIn all (level k octet) (level (k + suc (length octets)) octet)) (sym bits)
    (subst (λ n. TakesIn (octet_bits 0 ++ none_of (flat_map octet_bits octets)) (level k octet) (level n octet)) count
    (takes_both (octet_bits 0) (none_of (flat_map octet_bits octets)) (level k octet) (level (suc k) octet) (level (suc k + length octets) octet) first
    (takes_zeros octets (suc k) octet)))

-- the sum of what each octet leaves, with as many octets of zeros after it as follow it
abbrev pub gathered : List ℕ → ℕ
gathered [] = 0
gathered (octet ∷ octets) = bit_xor (level (length octets) octet) (gathered octets)

-- octets that go into an empty register
takes_gathered : (octets : List ℕ) → list_all (λ x. nat_lt x 256) octets ≡ true → TakesIn (flat_map octet_bits octets) 0 (gathered octets)
takes_gathered [] all = record { leaves = λ rest. refl }
takes_gathered (o ∷ octets) all =
    let small : o < 256 = grind (arith, nat_tests) in
    let more : list_all (λ x. nat_lt x 256) octets ≡ true = grind arith in
    let index : o ≡ bit_xor 0 o % 2 ^ 8 = omega (arith, xor_zero_l o) in
    let first : TakesIn (octet_bits o) 0 (level 0 o) = subst (λ n. TakesIn (octet_bits o) 0 n) (xor_zero_r (level 0 o)) (takes_octet 0 o o (omega arith) index) in
    let others : TakesIn (flat_map octet_bits octets) (level 0 o) (gathered (o ∷ octets)) =
    subst (λ n. TakesIn (flat_map octet_bits octets) n (gathered (o ∷ octets))) (xor_zero_r (level 0 o))
    (takes_sum (flat_map octet_bits octets) (level 0 o) (level (length octets) o) 0 (gathered octets)
    (subst (λ n. TakesIn (none_of (flat_map octet_bits octets)) (level 0 o) (level n o)) (zero-add (length octets)) (takes_zeros octets 0 o)) (takes_gathered octets more)) in
    takes_both (octet_bits o) (flat_map octet_bits octets) 0 (level 0 o) (gathered (o ∷ octets)) first others

-- A register that goes into two octets is gone after them.
takes_front : (octets : List ℕ) (register a b first second : ℕ) → register < 2 ^ 16 → first ≡ bit_xor register a % 2 ^ 8 → second ≡ bit_xor (register / 2 ^ 8) b
    → TakesIn (flat_map octet_bits (first ∷ second ∷ octets)) 0 (gathered (first ∷ second ∷ octets))
    → TakesIn (flat_map octet_bits (a ∷ b ∷ octets)) register (gathered (first ∷ second ∷ octets))
unfolding octet_bits
takes_front octets register a b first second small first_is second_is takes = record {
  leaves = λ rest.
      let high = register / 2 ^ 8 in
      let more = flat_map octet_bits octets ++ rest in
      let whole = octet_bits a ++ (octet_bits b ++ more) in
      let both : add (low_bits 16 register) whole ≡ octet_bits first ++ (octet_bits second ++ more) =
      ap (λ bits. add bits whole) (split register)
      ∙ add-append (low_bits 8 register ++ low_bits 8 high) (octet_bits a) (octet_bits b ++ more)
      ∙ ap (λ bits. bits ++ add (low_bits 8 high) (octet_bits b ++ more)) (sym (low_bits-xor 8 register a) ∙ sym (low_bits-mod 8 (bit_xor register a)) ∙ ap (low_bits 8) (sym first_is))
      ∙ ap (λ bits. octet_bits first ++ bits) (add-append (low_bits 8 high) (octet_bits b) more ∙ ap (λ bits. bits ++ more) (sym (low_bits-xor 8 high b) ∙ ap (low_bits 8) (sym second_is))) in
      let count = length (flat_map octet_bits (a ∷ b ∷ octets)) in
      ap (divided count) (both ∙ sym (add_zeros 16 (octet_bits first ++ (octet_bits second ++ more)))) ∙ takes.leaves rest;
}

both : {a b c d : ℕ} → a ≡ b → c ≡ d → bit_xor a c ≡ bit_xor b d
both p q = cc

left_to_right : (a b c d e f g h : ℕ)
    → bit_xor (bit_xor (bit_xor (bit_xor (bit_xor (bit_xor (bit_xor a b) c) d) e) f) g) h
    ≡ bit_xor a (bit_xor b (bit_xor c (bit_xor d (bit_xor e (bit_xor f (bit_xor g (bit_xor h 0)))))))
left_to_right a b c d e f g h = grind (arith, xor_assoc, xor_zero_r)

-- the first eight of a list
abbrev pub first_eight : List ℕ → List ℕ
first_eight xs = get_or xs 0 0 ∷ get_or xs 1 0 ∷ get_or xs 2 0 ∷ get_or xs 3 0 ∷ get_or xs 4 0 ∷ get_or xs 5 0 ∷ get_or xs 6 0 ∷ get_or xs 7 0 ∷ []

small_more : (x : ℕ) (xs : List ℕ) → x < 256 → list_all (λ x. nat_lt x 256) xs ≡ true → list_all (λ x. nat_lt x 256) (x ∷ xs) ≡ true
small_more x xs h all = grind (arith, nat_tests)

eight_small : (a b c d e f g h : ℕ) → a < 256 → b < 256 → c < 256 → d < 256 → e < 256 → f < 256 → g < 256 → h < 256
    → list_all (λ x. nat_lt x 256) (a ∷ b ∷ c ∷ d ∷ e ∷ f ∷ g ∷ h ∷ []) ≡ true
eight_small a b c d e f g h ha hb hc hd he hf hg hh =
    small_more a (b ∷ c ∷ d ∷ e ∷ f ∷ g ∷ h ∷ []) ha (small_more b (c ∷ d ∷ e ∷ f ∷ g ∷ h ∷ []) hb (small_more c (d ∷ e ∷ f ∷ g ∷ h ∷ []) hc
    (small_more d (e ∷ f ∷ g ∷ h ∷ []) hd (small_more e (f ∷ g ∷ h ∷ []) he (small_more f (g ∷ h ∷ []) hf (small_more g (h ∷ []) hg (small_more h [] hh refl)))))))

-- Eight octets go in by a look into each table.
pub takes_eight : (octets : List ℕ) (register a b c d e f g h first second : ℕ) → octets ≡ a ∷ b ∷ c ∷ d ∷ e ∷ f ∷ g ∷ h ∷ []
    → b < 256 → c < 256 → d < 256 → e < 256 → f < 256 → g < 256 → h < 256 → register < 2 ^ 16
    → first ≡ bit_xor register a % 2 ^ 8 → second ≡ bit_xor (register / 2 ^ 8) b
    → TakesIn (flat_map octet_bits octets) register
    (bit_xor (bit_xor (bit_xor (bit_xor (bit_xor (bit_xor (bit_xor (get_or BEFORE_SEVEN first 0) (get_or BEFORE_SIX second 0)) (get_or BEFORE_FIVE c 0)) (get_or BEFORE_FOUR d 0)) (get_or BEFORE_THREE e 0)) (get_or BEFORE_TWO f 0)) (get_or BEFORE_ONE g 0)) (get_or REMAINDERS h 0))
takes_eight octets register a b c d e f g h first second is hb hc hd he hf hg hh low first_is second_is =
    let into = first ∷ second ∷ c ∷ d ∷ e ∷ f ∷ g ∷ h ∷ [] in
    let h_first : first < 256 = omega (arith, first_is) in
    let h_second : second < 256 = omega (arith, second_is, xor_lt 8 (register / 2 ^ 8) b (omega arith) hb) in
    let all = eight_small first second c d e f g h h_first h_second hc hd he hf hg hh in
    let left = left_to_right (get_or BEFORE_SEVEN first 0) (get_or BEFORE_SIX second 0) (get_or BEFORE_FIVE c 0) (get_or BEFORE_FOUR d 0) (get_or BEFORE_THREE e 0) (get_or BEFORE_TWO f 0) (get_or BEFORE_ONE g 0) (get_or REMAINDERS h 0) in
    let tables : bit_xor (get_or BEFORE_SEVEN first 0) (bit_xor (get_or BEFORE_SIX second 0) (bit_xor (get_or BEFORE_FIVE c 0) (bit_xor (get_or BEFORE_FOUR d 0) (bit_xor (get_or BEFORE_THREE e 0) (bit_xor (get_or BEFORE_TWO f 0) (bit_xor (get_or BEFORE_ONE g 0) (bit_xor (get_or REMAINDERS h 0) 0)))))))
    ≡ gathered into =
    both (before_seven first h_first) (both (before_six second h_second) (both (before_five c hc) (both (before_four d hd) (both (before_three e he)
    (both (before_two f hf) (both (before_one g hg) refl)))))) in
    subst (λ n. TakesIn (flat_map octet_bits octets) register n) (sym (left ∙ tables))
    (subst (λ xs. TakesIn (flat_map octet_bits xs) register (gathered into)) (sym is)
    (takes_front (c ∷ d ∷ e ∷ f ∷ g ∷ h ∷ []) register a b first second low first_is second_is (takes_gathered into all)))

from_eight : (xs : List ℕ) → 8 ≤ length xs → xs ≡ first_eight xs ++ drop 8 xs
from_eight xs h =
    sym (take-append-drop 8 xs)
    ∙ ap (λ front. front ++ drop 8 xs)
    (text_from_reads (take 8 xs) (first_eight xs) (omega (arith, length-take 8 xs)) (search (rules, get_or-take)))

-- the first eight octets of a text, and then the others
pub takes_eight_more : (xs : List ℕ) (before between after : ℕ) → 8 ≤ length xs → TakesIn (flat_map octet_bits (first_eight xs)) before between
    → TakesIn (flat_map octet_bits (take (length xs - 8) (drop 8 xs))) between after → TakesIn (flat_map octet_bits xs) before after
takes_eight_more xs before between after some first second =
    let others : take (length xs - 8) (drop 8 xs) ≡ drop 8 xs = take_all (length xs - 8) (drop 8 xs) (omega (arith, length-drop 8 xs)) in
    let rest = subst (λ octets. TakesIn (flat_map octet_bits octets) between after) others second in
    subst (λ bits. TakesIn bits before after)
    (sym (flat_map-append octet_bits (first_eight xs) (drop 8 xs)) ∙ ap (flat_map octet_bits) (sym (from_eight xs some)))
    (takes_both (flat_map octet_bits (first_eight xs)) (flat_map octet_bits (drop 8 xs)) before between after first rest)
