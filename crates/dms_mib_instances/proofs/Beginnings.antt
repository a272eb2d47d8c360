-- What the first octets of numbers say of the first number.
use Rattle.std.proofs.Common.{◌≡◌, ◌⊎◌, inl, inr, ℕ, ◌+◌, ◌-◌, ◌/◌, ◌%◌, ◌<◌, ◌≤◌, List, [], ◌∷◌, ◌++◌, map, get_or, refl, sym, ap, ◌∙◌, arith}
use Rattle.std.proofs.lemmas.Bool.Decides.{nat_tests}
use Rattle.std.specs.Int.Digits.{digits_of}
use Rattle.std.proofs.lemmas.Int.Digits.{first_digits_of, digits_of_step}
use Rattle.std.proofs.lemmas.Bool.{cases_lt}
use Rattle.dms_wire_ber.specs.ObjectIdentifier.{sub_identifier_octets}
use Rattle.dms_mib.proofs.SubIdentifiers.{one_octet}
use Rattle.dms_wire_ber.proofs.SubIdentifiers.{two_octets}
use Rattle.dms_mib_instances.specs.NameReading.{octets_below, row_number_of}

-- the numbers begin with one of one octet, or with one of 128 or more
pub record Begins (numbers : List ℕ) (octet : ℕ) (more : List ℕ) : Type 0 where
  pub first : ℕ
  pub others : List ℕ
  pub are : numbers ≡ first ∷ others
  pub is : ((first ≡ octet) × (first < 128) × (octets_below others ≡ more)) ⊎ ((128 ≤ first) × (128 ≤ octet))

abbrev raised : List ℕ → List ℕ
raised digits = map (λ d. 128 + d) digits

first_high : (ds : List ℕ) (low : ℕ) (rest : List ℕ) (octet : ℕ) (more : List ℕ) → 0 < get_or ds 0 0
    → (raised ds ++ low ∷ []) ++ rest ≡ octet ∷ more → 128 ≤ octet
first_high [] low rest octet more some e = absurd (omega arith)
first_high (d ∷ ds) low rest octet more some e = let is : 128 + d ≡ octet = cc in omega (arith, is)

high : (n : ℕ) (rest : List ℕ) (octet : ℕ) (more : List ℕ) → 128 ≤ n → sub_identifier_octets n ++ rest ≡ octet ∷ more → 128 ≤ octet
high n rest octet more many e =
    first_high (digits_of 128 (n / 128)) (n % 128) rest octet more (first_digits_of 128 (n / 128) (omega arith) (omega arith)) e

pub begins : (numbers : List ℕ) (octet : ℕ) (more : List ℕ) → octets_below numbers ≡ octet ∷ more → Begins numbers octet more
begins [] octet more e = absurd (cc)
begins (n ∷ ns) octet more e =
    elim (cases_lt n 128) [
      | inl few ↦
          let one : n ∷ octets_below ns ≡ octet ∷ more = ap (λ xs. xs ++ octets_below ns) (sym (one_octet n few)) ∙ e in
          record { first = n; others = ns; are = refl; is = inl (cc, few, cc) }
      | inr many ↦ record { first = n; others = ns; are = refl; is = inr (many, high n (octets_below ns) octet more many e) }
    ]

-- no octets are those of no numbers
some_octets : (ds : List ℕ) (low : ℕ) (rest : List ℕ) → (raised ds ++ low ∷ []) ++ rest ≡ [] → ⊥
some_octets [] low rest e = absurd (cc)
some_octets (d ∷ ds) low rest e = absurd (cc)

pub ends : (numbers : List ℕ) → octets_below numbers ≡ [] → numbers ≡ []
ends [] e = refl
ends (n ∷ ns) e = absurd (some_octets (digits_of 128 (n / 128)) (n % 128) (octets_below ns) e)

-- ---- two octets

second_high : (ds : List ℕ) (x low : ℕ) (rest : List ℕ) (octet second : ℕ) (more : List ℕ) → 0 < get_or ds 0 0
    → (raised (ds ++ x ∷ []) ++ low ∷ []) ++ rest ≡ octet ∷ second ∷ more → 128 ≤ second
second_high [] x low rest octet second more some e = absurd (omega arith)
second_high (d ∷ []) x low rest octet second more some e = let is : 128 + x ≡ second = cc in omega (arith, is)
second_high (d ∷ c ∷ ds) x low rest octet second more some e = let is : 128 + c ≡ second = cc in omega (arith, is)

-- a number of three octets or more has two that are followed by others
three : (n : ℕ) (rest : List ℕ) (octet second : ℕ) (more : List ℕ) → 16384 ≤ n → sub_identifier_octets n ++ rest ≡ octet ∷ second ∷ more → 128 ≤ second
three n rest octet second more many e =
    second_high (digits_of 128 (n / 128 / 128)) (n / 128 % 128) (n % 128) rest octet second more
    (first_digits_of 128 (n / 128 / 128) (omega arith) (omega arith))
    (ap (λ ds. (raised ds ++ (n % 128) ∷ []) ++ rest) (sym (digits_of_step 128 (n / 128) (omega arith) (omega arith))) ∙ e)

-- 129 and an octet below 128 are a number below 256
two : (n : ℕ) (rest : List ℕ) (low : ℕ) (more : List ℕ) → low < 128 → octets_below (n ∷ rest) ≡ 129 ∷ low ∷ more → n ≡ 128 + low
two n rest low more few e =
    elim (cases_lt n 16384) [
      | inl most ↦
          let one = one_octet n in
          let two = λ (least : 128 ≤ n). two_octets n least most in
          grind arith
      | inr many ↦ let more = three n (octets_below rest) 129 low more many e in absurd (omega (arith, more, few))
    ]

-- and those below 256 that have two are 129 and such
as_two : (n : ℕ) (rest : List ℕ) → 128 ≤ n → n < 256 → octets_below (n ∷ rest) ≡ 129 ∷ (n - 128) ∷ octets_below rest
as_two n rest least most =
    let first : n / 128 % 128 ≡ 1 = omega arith in
    let second : n % 128 ≡ n - 128 = omega arith in
    ap (λ xs. xs ++ octets_below rest) (two_octets n least (omega arith)) ∙ rw (first, second) refl

-- a number of one octet, and those after it
pub small_first : (numbers : List ℕ) (octet : ℕ) (more : List ℕ) → octets_below numbers ≡ octet ∷ more → octet < 128
    → (others : List ℕ) × (numbers ≡ octet ∷ others) × (octets_below others ≡ more)
small_first numbers octet more e few =
    let from = begins numbers octet more e in
    elim from.is [
      | inl one ↦ (from.others, from.are ∙ ap (λ k. k ∷ from.others) one.0, one.2)
      | inr high ↦ absurd (omega (arith, high.1, few))
    ]

-- ---- the number of a row

pub one_number : (numbers : List ℕ) (octet : ℕ) (more : List ℕ) → octets_below numbers ≡ octet ∷ more → octet < 128 → octet ≡ row_number_of numbers
one_number numbers octet more e few =
    let first = small_first numbers octet more e few in
    let is = first.1 in
    grind (arith, nat_tests)

pub two_number : (numbers : List ℕ) (octet low : ℕ) (more : List ℕ) → octets_below numbers ≡ octet ∷ low ∷ more → octet ≡ 129 → low < 128
    → 128 + low ≡ row_number_of numbers
two_number [] octet low more e is few = absurd (cc)
two_number (n ∷ ns) octet low more e is few =
    let same = two n ns low more few in
    grind (arith, nat_tests)

-- any other is one above 255
pub great_number : (numbers : List ℕ) (octet : ℕ) (more : List ℕ) → octets_below numbers ≡ octet ∷ more → 128 ≤ octet
    → ((low : ℕ) (rest : List ℕ) → more ≡ low ∷ rest → octet ≡ 129 → low < 128 → ⊥) → 255 ≡ row_number_of numbers
great_number [] octet more e many other = absurd (cc)
great_number (n ∷ ns) octet more e many other =
    let one = one_octet n in
    let two = as_two n ns in
    let not = other (n - 128) (octets_below ns) in
    grind (arith, nat_tests)
