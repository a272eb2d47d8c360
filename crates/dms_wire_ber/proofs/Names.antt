-- An object identifier's octets, read one by one: each step, and what the walk gives.
use Rattle.std.proofs.Common.{◌≡◌, ◌≢◌, ℕ, ◌+◌, ◌*◌, ◌%◌, ◌^◌, ◌<◌, ◌≤◌, ◌⊎◌, inl, inr, Bool, true, false, ltb, eqb, List, [], ◌∷◌, ◌++◌, map, length, get_or, Option, Some, refl, sym, ap, ap₂, ◌∙◌, arith, append_assoc, ltb-true, lt-ltb, le-ltb, eqb-true}
use Rattle.std.proofs.ByRecursion.{All-append}
use Rattle.std.proofs.lemmas.Bool.{and_parts}
use Rattle.std.proofs.lemmas.Bool.Decides.{nat_tests}
use Rattle.std.proofs.lemmas.List.{map-append}
use Rattle.std.proofs.lemmas.Int.Digits.{number_push, number_after_ge}
use Rattle.std.specs.Int.Digits.{number_from_digits, number_from_digits_after, AllBelowBase}
use Rattle.std.specs.Option.{option_map_or}
use Rattle.dms_wire_ber.specs.ObjectIdentifier.{IsSubIdentifier, AreSubIdentifiers, IsName, numbers_from}
use Rattle.dms_wire_ber.specs.NameReading.{sub_identifiers_after, numbers_of, part_after, goes_on, is_name}
use Rattle.dms_wire_ber.specs.Limits.{most_sub_identifiers}

-- n is what came of a sub-identifier, of which the digits high were read
pub record IsPart (n : ℕ) (high : List ℕ) : Type 0 where
  pub digits : AllBelowBase 128 high
  pub first : get_or high 0 1 ≢ 0
  pub value : n ≡ number_from_digits 128 high

-- the start of a sub-identifier
pub no_part : IsPart 0 []
no_part = record { digits = tt; first = λ e. omega arith; value = refl }

-- what a step that the walk goes on from says of its octet
part_ok : (f : ℕ × ℕ → Bool) (count n b : ℕ) → option_map_or f (part_after count n b) false ≡ true
    → (b < 256) × (n * 128 + b % 128 < 2 ^ 32) × (b ≡ 128 → n ≡ 0 → ⊥)
    × (((128 ≤ b) × (f (count, n * 128 + b % 128) ≡ true)) ⊎ ((b < 128) × (count < most_sub_identifiers) × (f (count + 1, 0) ≡ true)))
part_ok f count n b e = grind arith

-- nothing but no digit comes to 0
part_zero : (n : ℕ) (high : List ℕ) → IsPart n high → n ≡ 0 → high ≡ []
part_zero n [] part e = refl
part_zero n (d ∷ ds) part e = grind (arith, number_after_ge)

-- the first digit of one more is not 0
first_push : (n b : ℕ) (high : List ℕ) → IsPart n high → 128 ≤ b → b < 256 → (b ≡ 128 → n ≡ 0 → ⊥)
    → get_or (high ++ b % 128 ∷ []) 0 1 ≢ 0
first_push n b [] part more octet some e = some (omega arith) part.value
first_push n b (d ∷ ds) part more octet some e = part.first e

-- one digit more
part_push : (n b : ℕ) (high : List ℕ) → IsPart n high → 128 ≤ b → b < 256 → (b ≡ 128 → n ≡ 0 → ⊥)
    → IsPart (n * 128 + b % 128) (high ++ b % 128 ∷ [])
part_push n b high part more octet some = record {
  digits = All-append (λ d. d < 128) high (b % 128 ∷ []) part.digits (omega arith, tt);
  first = first_push n b high part more octet some;
  value = ap (λ k. k * 128 + b % 128) part.value ∙ sym (number_push 128 high (b % 128));
}

-- what the walk promises of octets after the digits high, where count sub-identifiers came before
abbrev IsWalk : ℕ → ℕ → List ℕ → List ℕ → Type 0
IsWalk count n high bs =
    AreSubIdentifiers (sub_identifiers_after n bs) (map (λ d. 128 + d) high ++ bs)
    × (0 < count + length (sub_identifiers_after n bs)) × (count + length (sub_identifiers_after n bs) ≤ most_sub_identifiers)

-- an octet of 128 or more, and the walk after it
names_more : (b : ℕ) (bs : List ℕ) (count n : ℕ) (high : List ℕ) → 128 ≤ b → b < 256
    → IsWalk count (n * 128 + b % 128) (high ++ b % 128 ∷ []) bs → IsWalk count n high (b ∷ bs)
names_more b bs count n high more octet walk = grind (arith, map-append, append_assoc, le-ltb)

-- the last octet ends the sub-identifier
part_ends : (n b : ℕ) (high : List ℕ) → IsPart n high → b < 128
    → IsSubIdentifier (n * 128 + b) (map (λ d. 128 + d) high ++ b ∷ [])
part_ends n b high part last = grind (arith, number_push)

-- an octet below 128, and the walk after it
names_last : (b : ℕ) (bs : List ℕ) (count n : ℕ) (high : List ℕ) → IsPart n high → b < 128 → n * 128 + b < 2 ^ 32
    → IsWalk (count + 1) 0 [] bs → IsWalk count n high (b ∷ bs)
names_last b bs count n high part last small walk =
    let front : List ℕ = map (λ d. 128 + d) high in
    rw (lt-ltb b 128 last) (
      (front ++ b ∷ [], bs, small, part_ends n b high part last, walk.0, sym (append_assoc front (b ∷ []) bs)),
      omega arith,
      omega (arith, walk.2),
    )

-- octets that the walk takes are the sub-identifiers that it reads
pub names_found : (bs : List ℕ) (count n : ℕ) (high : List ℕ) → IsPart n high → count ≤ most_sub_identifiers → goes_on count n bs ≡ true
    → AreSubIdentifiers (sub_identifiers_after n bs) (map (λ d. 128 + d) high ++ bs)
    × (0 < count + length (sub_identifiers_after n bs)) × (count + length (sub_identifiers_after n bs) ≤ most_sub_identifiers)
unfolding goes_on
names_found [] count n high part few e =
    let ends = and_parts (eqb n 0) (ltb 0 count) e in
    let none = part_zero n high part (eqb-true n 0 ends.0) in
    let some : 0 < count = ltb-true 0 count ends.1 in
    (ap (λ ds. map (λ d. 128 + d) ds ++ []) none, omega arith, omega arith)
names_found (b ∷ bs) count n high part few e =
    let step = part_ok (λ p. goes_on p.0 p.1 bs) count n b e in
    elim step.3 [
      | inl h ↦
          names_more b bs count n high h.0 step.0
          (names_found bs count (n * 128 + b % 128) (high ++ b % 128 ∷ []) (part_push n b high part h.0 step.0 step.2) few h.1)
      | inr h ↦
          let room : count + 1 ≤ most_sub_identifiers = omega (arith, h.1) in
          let low : b < 128 = h.0 in
          names_last b bs count n high part low (omega (arith, step.1)) (names_found bs (count + 1) 0 [] no_part room h.2)
    ]

option_at : (f : ℕ × ℕ → Bool) (o : Option (ℕ × ℕ)) (p : ℕ × ℕ) → o ≡ Some p → option_map_or f o false ≡ f p
option_at f o p e = rw e

-- an octet that goes on
octet_more : (count n d : ℕ) → d < 128 → n * 128 + d < 2 ^ 32 → (d ≡ 0 → n ≡ 0 → ⊥)
    → part_after count n (128 + d) ≡ Some (count, n * 128 + d)
octet_more count n d digit small some = let same : (128 + d) % 128 ≡ d = omega arith in rw same (grind (arith, nat_tests))

-- the last octet
last_octet : (count n low : ℕ) → low < 128 → n * 128 + low < 2 ^ 32 → count < most_sub_identifiers
    → part_after count n low ≡ Some (count + 1, 0)
last_octet count n low digit small room = let same : low % 128 ≡ low = omega arith in rw same (grind (arith, nat_tests))

-- one sub-identifier, of which n came
sub_only : (high : List ℕ) (count n low : ℕ) (rest : List ℕ) → AllBelowBase 128 high → low < 128
    → (get_or high 0 1 ≡ 0 → n ≡ 0 → ⊥) → number_from_digits_after 128 n (high ++ low ∷ []) < 2 ^ 32 → count < most_sub_identifiers
    → (goes_on count n ((map (λ d. 128 + d) high ++ low ∷ []) ++ rest) ≡ goes_on (count + 1) 0 rest)
    × (sub_identifiers_after n ((map (λ d. 128 + d) high ++ low ∷ []) ++ rest) ≡ number_from_digits_after 128 n (high ++ low ∷ []) ∷ sub_identifiers_after 0 rest)
unfolding goes_on
sub_only [] count n low rest digits digit some small room = grind (arith, option_at, last_octet, lt-ltb, number_after_ge, octet_more, le-ltb)
sub_only (d ∷ ds) count n low rest digits digit some small room =
    let below : d < 128 = digits.0 in
    let bound : n * 128 + d < 2 ^ 32 = omega (arith, number_after_ge 128 (n * 128 + d) (ds ++ low ∷ [])) in
    let others = sub_only ds count (n * 128 + d) low rest digits.1 digit (λ e z. some (omega arith) (omega arith)) small room in
    let high : 128 ≤ 128 + d = omega arith in
    let same : (128 + d) % 128 ≡ d = omega arith in (
      option_at _ _ _ (octet_more count n d below bound some) ∙ others.0,
      rw (le-ltb (128 + d) 128 high, same) others.1,
    )

-- and the walk takes no other sub-identifiers
pub names_only : (ns bytes : List ℕ) (count : ℕ) → AreSubIdentifiers ns bytes → 0 < count + length ns
    → count + length ns ≤ most_sub_identifiers → (goes_on count 0 bytes ≡ true) × (sub_identifiers_after 0 bytes ≡ ns)
unfolding goes_on
names_only [] bytes count h some few = rw (h, lt-ltb 0 count (omega arith)) (refl, refl)
names_only (n ∷ ns) bytes count h some few =
    let sub = h.3 in
    let bound : number_from_digits 128 (sub.high ++ sub.low ∷ []) < 2 ^ 32 = omega (arith, h.2, sub.value) in
    let one = sub_only sub.high count 0 sub.low h.1 sub.digits sub.last (λ e z. sub.first e) bound (omega arith) in
    let others = names_only ns h.1 (count + 1) h.4 (omega arith) (omega arith) in
    rw (h.5, sub.parts) (one.0 ∙ others.0, one.1 ∙ ap₂ (λ (k : ℕ) (ks : List ℕ). k ∷ ks) (sym sub.value) others.1)

pub name_found : (bytes : List ℕ) → is_name bytes ≡ true → IsName (numbers_of bytes) bytes
name_found bytes e =
    let found = names_found bytes 0 0 [] no_part (omega arith) e in
    record { sub_identifiers = sub_identifiers_after 0 bytes; some = omega (arith, found.1); few = omega (arith, found.2); spelled = found.0; numbers_is = refl }

pub name_only : (numbers bytes : List ℕ) → IsName numbers bytes → (is_name bytes ≡ true) × (numbers_of bytes ≡ numbers)
name_only numbers bytes h =
    let read = names_only h.sub_identifiers bytes 0 h.spelled (omega (arith, h.some)) (omega (arith, h.few)) in
    (read.0, ap numbers_from read.1 ∙ sym h.numbers_is)

-- a sub-identifier of one octet
one_step : (count a : ℕ) (rest : List ℕ) → a < 128 → count < most_sub_identifiers → goes_on count 0 (a ∷ rest) ≡ goes_on (count + 1) 0 rest
unfolding goes_on
one_step count a rest small few = grind (arith, le-ltb, lt-ltb, nat_tests)

-- four of them
pub four_steps : (count a b c d : ℕ) (rest : List ℕ) → a < 128 → b < 128 → c < 128 → d < 128 → count + 4 ≤ most_sub_identifiers
    → goes_on count 0 (a ∷ b ∷ c ∷ d ∷ rest) ≡ goes_on (count + 4) 0 rest
four_steps count a b c d rest sa sb sc sd few =
    one_step count a (b ∷ c ∷ d ∷ rest) sa (omega arith)
    ∙ one_step (count + 1) b (c ∷ d ∷ rest) sb (omega arith)
    ∙ one_step (count + 1 + 1) c (d ∷ rest) sc (omega arith)
    ∙ one_step (count + 1 + 1 + 1) d rest sd (omega arith)
    ∙ ap (λ n. goes_on n 0 rest) (omega arith)
