-- Numbers are read of their digits without a needless zero, and of no others.
use Rattle.std.proofs.Common.{◌≡◌, ℕ, ℤ, pos, negsuc, zero, suc, ◌<◌, ◌≤◌, ◌^◌, ◌==◌, ◌&&◌, true, false, cond, neg_ℤ, List, [], ◌∷◌, length, get_or, nat_le, Some, None, decimal, refl, sym, ap, subst, ◌∙◌, arith, inl, inr}
use Rattle.std.specs.Fmt.{signed_decimal}
use Rattle.std.specs.Str.Parse.{AllDigits}
use Rattle.std.proofs.lemmas.Bool.Decides.{nat_tests}
use Rattle.std.proofs.lemmas.Bool.{or_from, or_parts, leb-true, le-leb, eqb-true, eq-eqb, ne_eqb, cases_lt, cases_Bool}
use Rattle.std.proofs.lemmas.Option.{cond_some}
use Rattle.std.proofs.lemmas.Fmt.{decimal_is_IsNumeral, decimal_digit, first_decimal, decimal-digits_value, length-decimal-le}
use Rattle.std.proofs.lemmas.Str.Parse.{numerals_by_value, tells_digits, digits_value_short, digit_from_value}
use Rattle.dms_wire_ber.specs.Integer.{in_range}
use Rattle.dms_text.specs.Numbers.{SpellsNumber}
use Rattle.dms_text.specs.Reading.{number_of, within, ◌>>=◌}
use Rattle.dms_text.proofs.NumberLaws.{number_found, number_only, within_found, within_only}
use Rattle.dms_text.proofs.WordLaws.{begun, goes_on}
use Rattle.dms_text_values.specs.ValueReading.{positive_of, negative_of, integer_of}
use Rattle.dms_text_exact.specs.ExactWords.{has_needless_zero, number_in, integer_in}
use Rattle.dms_text_exact.specs.Fronts.{IsFree}
use Rattle.dms_text_exact.proofs.Tests.{if_false}

-- ---- digits

alone : (word : List ℕ) → has_needless_zero word ≡ false → get_or word 0 0 ≡ 48 → length word ≡ 1
alone [] none e = absurd (omega (arith, e))
alone (digit ∷ []) none e = refl
alone (digit ∷ next ∷ digits) none e =
    absurd (let yes : (digit == 48) ≡ true = eq-eqb digit 48 e in let never : true ≡ false = sym yes ∙ (or_parts (digit == 48) (digit == 45 && next == 48) none).0 in cc)

digits_written : (most n : ℕ) (word : List ℕ) → most ≤ 10 → (get_or word 0 0 ≡ 48 → length word ≡ 1) → SpellsNumber 10 most n word → (n < 10 ^ 10) × (word ≡ decimal n)
digits_written most n word few lead spelled =
    let short = digits_value_short (numerals_by_value _ tells_digits) word 10 spelled.numeral.1 (omega (arith, spelled.few, few)) in
    let whole = decimal-digits_value (numerals_by_value _ tells_digits) word spelled.numeral.1 spelled.numeral.0 lead (omega (arith, short)) in
    (omega (arith, spelled.value, short), sym whole ∙ ap decimal (sym spelled.value))

-- digits without a needless zero are those that are written
pub written : (most n : ℕ) (word : List ℕ) → most ≤ 10 → has_needless_zero word ≡ false → SpellsNumber 10 most n word → (n < 10 ^ 10) × (word ≡ decimal n)
written most n word few none spelled = digits_written most n word few (alone word none) spelled

later_digit : (word : List ℕ) → 48 < get_or word 0 0 → has_needless_zero word ≡ false
later_digit [] more = refl
later_digit (digit ∷ []) more = refl
later_digit (digit ∷ next ∷ digits) more =
    or_from (digit == 48) (digit == 45 && next == 48) (ne_eqb digit 48 (λ e. omega (arith, e, more)))
    (ap (λ b. b && next == 48) (ne_eqb digit 45 (λ e. omega (arith, e, more))))

pub no_needless_zero : (n : ℕ) → n < 2 ^ 64 → has_needless_zero (decimal n) ≡ false
no_needless_zero n small =
    elim (cases_lt 0 n) [
      | inl some ↦ later_digit (decimal n) (first_decimal n some small)
      | inr none ↦ ap has_needless_zero (decimal_digit n (omega (arith, none)))
    ]

pub spells_number : (most n : ℕ) → 0 < most → n < 10 ^ most → n < 2 ^ 64 → SpellsNumber 10 most n (decimal n)
spells_number most n some fits wide =
    let is = decimal_is_IsNumeral n wide in
    record { numeral = is.0; few = length-decimal-le most n some fits wide; value = sym is.1 }

digits_free : (end : ℕ) (digits : List ℕ) → end < 48 → AllDigits 10 digits → IsFree end digits
digits_free end [] low all = refl
digits_free end (digit ∷ digits) low all =
    or_from _ _ (ne_eqb digit end (λ e. omega (arith, digit_from_value digit all.0, e))) (digits_free end digits low all.1)

pub decimal_free : (end n : ℕ) → end < 48 → n < 2 ^ 64 → IsFree end (decimal n)
decimal_free end n low small = digits_free end (decimal n) low (decimal_is_IsNumeral n small).0.1

pub decimal_some : (n : ℕ) → n < 2 ^ 64 → 0 < length (decimal n)
decimal_some n small = (decimal_is_IsNumeral n small).0.0

-- ---- numbers

pub number_word_found : (low high n : ℕ) (word : List ℕ) → number_in low high word ≡ Some n → (low ≤ n) × (n ≤ high) × (word ≡ decimal n)
unfolding number_in
number_word_found low high n word e =
    let tests = if_false (has_needless_zero word) (number_of 10 10 word >>= (λ number. within low high number)) n e in
    let read = begun (number_of 10 10 word) (λ number. within low high number) n tests.1 in
    let is = within_found low high read.0 n read.2 in
    let digits = written 10 read.0 word (omega arith) tests.0 (number_found 10 10 read.0 word read.1) in
    (omega (arith, is.0, is.1), omega (arith, is.0, is.2), digits.1 ∙ ap decimal is.0)

pub number_word_only : (low high n : ℕ) → low ≤ n → n ≤ high → high < 10 ^ 10 → number_in low high (decimal n) ≡ Some n
unfolding number_in
number_word_only low high n least most small =
    let fits : n < 10 ^ 10 = omega (arith, most, small) in
    let wide : n < 2 ^ 64 = omega (arith, fits) in
    ap (λ b. cond b None (number_of 10 10 (decimal n) >>= (λ number. within low high number))) (no_needless_zero n wide)
    ∙ goes_on (number_of 10 10 (decimal n)) (λ number. within low high number) n (number_only 10 10 n (decimal n) (spells_number 10 n (omega arith) fits wide))
    ∙ within_only low high n least most

-- ---- numbers below nought too

abbrev IsWritten : ℤ → List ℕ → Type 0
IsWritten z word = (in_range z ≡ true) × (word ≡ signed_decimal z)

positive_found : (word : List ℕ) (z : ℤ) → has_needless_zero word ≡ false → positive_of word ≡ Some z → IsWritten z word
unfolding positive_of
positive_found word z none e =
    let read = begun (number_of 10 10 word) (λ number. cond (nat_le number 4294967295) (Some (pos number)) None) z e in
    let tests = cond_some (nat_le read.0 4294967295) (pos read.0) z read.2 in
    let small = leb-true read.0 4294967295 tests.0 in
    let digits = written 10 read.0 word (omega arith) none (number_found 10 10 read.0 word read.1) in
    subst (λ (z : ℤ). IsWritten z word) tests.1 (in_range_pos read.0 small, digits.1)
  where
    in_range_pos : (n : ℕ) → n ≤ 4294967295 → in_range (pos n) ≡ true
    in_range_pos n small = grind (arith, nat_tests)

negative_found : (digits : List ℕ) (z : ℤ) → has_needless_zero (45 ∷ digits) ≡ false → negative_of digits ≡ Some z → IsWritten z (45 ∷ digits)
unfolding negative_of
negative_found digits z none e =
    let read = begun (number_of 10 10 digits) (λ number. cond (nat_le number 2147483648) (Some (neg_ℤ (pos number))) None) z e in
    let tests = cond_some (nat_le read.0 2147483648) (neg_ℤ (pos read.0)) z read.2 in
    let small = leb-true read.0 2147483648 tests.0 in
    let spelled = number_found 10 10 read.0 digits read.1 in
    let lead : get_or digits 0 0 ≡ 48 → ⊥ = first_is digits none spelled.numeral.0 in
    let is = digits_written 10 read.0 digits (omega arith) (λ e. absurd (lead e)) spelled in
    subst (λ (z : ℤ). IsWritten z (45 ∷ digits)) tests.1 (of_size read.0 small lead is.1)
  where
    first_is : (digits : List ℕ) → has_needless_zero (45 ∷ digits) ≡ false → 0 < length digits → get_or digits 0 0 ≡ 48 → ⊥
    first_is [] none some e = absurd (omega (arith, some))
    first_is (digit ∷ digits) none some e = absurd (let yes : (digit == 48) ≡ true = eq-eqb digit 48 e in let never : true ≡ false = sym yes ∙ none in cc)

    below : (n : ℕ) → suc n ≤ 2147483648 → in_range (negsuc n) ≡ true
    below n small = grind (arith, nat_tests)

    of_size : (n : ℕ) → n ≤ 2147483648 → (get_or digits 0 0 ≡ 48 → ⊥) → digits ≡ decimal n → IsWritten (neg_ℤ (pos n)) (45 ∷ digits)
    of_size zero small lead is = absurd (lead (ap (λ digits. get_or digits 0 0) (is ∙ decimal_digit 0 (omega arith))))
    of_size (suc n) small lead is = (below n small, ap (λ digits. 45 ∷ digits) is)

integer_found : (word : List ℕ) (z : ℤ) → has_needless_zero word ≡ false → integer_of word ≡ Some z → IsWritten z word
integer_found [] z none e = absurd cc
integer_found (octet ∷ octets) z none e =
    elim (cases_Bool (octet == 45)) [
      | inl minus ↦
          let is : octet ≡ 45 = eqb-true octet 45 minus in
          subst (λ first. IsWritten z (first ∷ octets)) (sym is)
          (negative_found octets z (ap (λ first. has_needless_zero (first ∷ octets)) (sym is) ∙ none)
          (ap (λ b. cond b (negative_of octets) (positive_of (octet ∷ octets))) (sym minus) ∙ e))
      | inr plus ↦ positive_found (octet ∷ octets) z none (ap (λ b. cond b (negative_of octets) (positive_of (octet ∷ octets))) (sym plus) ∙ e)
    ]

pub integer_word_found : (word : List ℕ) (z : ℤ) → integer_in word ≡ Some z → (in_range z ≡ true) × (word ≡ signed_decimal z)
unfolding integer_in
integer_word_found word z e =
    let tests = if_false (has_needless_zero word) (integer_of word) z e in
    integer_found word z tests.0 tests.1

of_digits : (word : List ℕ) → AllDigits 10 word → 0 < length word → integer_of word ≡ positive_of word
of_digits [] all some = absurd (omega (arith, some))
of_digits (digit ∷ digits) all some =
    ap (λ b. cond b (negative_of digits) (positive_of (digit ∷ digits))) (ne_eqb digit 45 (λ e. omega (arith, digit_from_value digit all.0, e)))

no_zero_below : (word : List ℕ) → 48 < get_or word 0 0 → has_needless_zero (45 ∷ word) ≡ false
no_zero_below [] more = refl
no_zero_below (digit ∷ digits) more = ne_eqb digit 48 (λ e. omega (arith, e, more))

pub integer_word_only : (z : ℤ) → in_range z ≡ true → integer_in (signed_decimal z) ≡ Some z
unfolding integer_in positive_of negative_of
integer_word_only (pos n) is =
    let small : n < 2 ^ 32 = grind (arith, nat_tests, is) in
    let wide : n < 2 ^ 64 = omega (arith, small) in
    let numeral = decimal_is_IsNumeral n wide in
    ap (λ b. cond b None (integer_of (decimal n))) (no_needless_zero n wide)
    ∙ of_digits (decimal n) numeral.0.1 numeral.0.0
    ∙ goes_on (number_of 10 10 (decimal n)) (λ number. cond (nat_le number 4294967295) (Some (pos number)) None) n
    (number_only 10 10 n (decimal n) (spells_number 10 n (omega arith) (omega (arith, small)) wide))
    ∙ ap (λ b. cond b (Some (pos n)) None) (le-leb n 4294967295 (omega (arith, small)))
integer_word_only (negsuc n) is =
    let less : n < 2 ^ 31 = grind (arith, nat_tests, is) in
    let wide : suc n < 2 ^ 64 = omega (arith, less) in
    ap (λ b. cond b None (negative_of (decimal (suc n)))) (no_zero_below (decimal (suc n)) (first_decimal (suc n) (omega arith) wide))
    ∙ goes_on (number_of 10 10 (decimal (suc n))) (λ number. cond (nat_le number 2147483648) (Some (neg_ℤ (pos number))) None) (suc n)
    (number_only 10 10 (suc n) (decimal (suc n)) (spells_number 10 (suc n) (omega arith) (omega (arith, less)) wide))
    ∙ ap (λ b. cond b (Some (negsuc n)) None) (le-leb (suc n) 2147483648 (omega (arith, less)))

-- how far it is from nought
abbrev size_of : ℤ → ℕ
size_of (pos n) = n
size_of (negsuc n) = suc n

size_small : (z : ℤ) → in_range z ≡ true → size_of z < 2 ^ 32
size_small (pos n) is = let less : n < 2 ^ 32 = grind (arith, nat_tests, is) in less
size_small (negsuc n) is = let less : n < 2 ^ 31 = grind (arith, nat_tests, is) in omega (arith, less)

sized_free : (end : ℕ) (z : ℤ) → end < 45 → size_of z < 2 ^ 32 → IsFree end (signed_decimal z)
sized_free end (pos n) low small = decimal_free end n (omega (arith, low)) (omega (arith, small))
sized_free end (negsuc n) low small = or_from _ _ (ne_eqb 45 end (λ e. omega (arith, low, e))) (decimal_free end (suc n) (omega (arith, low)) (omega (arith, small)))

pub signed_free : (end : ℕ) (z : ℤ) → end < 45 → in_range z ≡ true → IsFree end (signed_decimal z)
signed_free end z low is = sized_free end z low (size_small z is)

sized_some : (z : ℤ) → size_of z < 2 ^ 32 → 0 < length (signed_decimal z)
sized_some (pos n) small = decimal_some n (omega (arith, small))
sized_some (negsuc n) small = omega arith

pub signed_some : (z : ℤ) → in_range z ≡ true → 0 < length (signed_decimal z)
signed_some z is = sized_some z (size_small z is)
