-- What is read of a name, an INTEGER or an address is what its word spells.
use Rattle.std.proofs.Common.{◌≡◌, ℕ, zero, suc, ◌+◌, ◌*◌, ◌^◌, ◌<◌, ◌≤◌, ◌==◌, true, false, cond, List, [], ◌∷◌, length, Option, Some, None, refl, sym, ap, subst, ◌∙◌, arith, inl, inr}
use Rattle.std.specs.Prelude.{ℤ, pos, neg_ℤ}
use Rattle.std.specs.Char.{is_digit}
use Rattle.std.specs.Int.Digits.{AllBelowBase}
use Rattle.std.proofs.lemmas.Bool.{and_parts, both_ways, leb-true, le-leb, eqb-true, cases_Bool}
use Rattle.std.proofs.lemmas.Option.{cond_some, same_Some, none-some}
use Rattle.dms_wire_ber.specs.ObjectIdentifier.{IsNameInLimits}
use Rattle.dms_text.specs.Numbers.{SpellsNumber}
use Rattle.dms_text.specs.Words.{parts_of}
use Rattle.dms_text.specs.Reading.{decimal_at, ◌>>=◌}
use Rattle.dms_text.proofs.NumberLaws.{number_found, number_only, digits_test}
use Rattle.dms_text.proofs.WordLaws.{begun, goes_on, word_found, word_only, numeral_found, numeral_only}
use Rattle.dms_text_forms.specs.Fields.{SpellsEach}
use Rattle.dms_text_forms.proofs.FieldLaws.{same_rest}
use Rattle.dms_text_values.specs.NameReading.{numbers_at, most_second, name_of}
use Rattle.dms_text_values.specs.ValueReading.{positive_of, negative_of, integer_of, integer_at}
use Rattle.dms_agent_state.specs.ObjectFields.{SpellsName, SpellsPositive, SpellsNegative, SpellsInteger}

-- ---- names

-- numbers that parts spell, each below 2^32, and at most so many
record AreNumbers (most : ℕ) (numbers : List ℕ) (parts : List (List ℕ)) : Type 0 where
  spelled : SpellsEach (SpellsNumber 10 10) numbers parts
  small : AllBelowBase (2 ^ 32) numbers
  few : length numbers ≤ most

more_numbers : (most number : ℕ) (numbers : List ℕ) (word : List ℕ) (parts : List (List ℕ)) → SpellsNumber 10 10 number word → number ≤ 4294967295
    → AreNumbers most numbers parts → AreNumbers (suc most) (number ∷ numbers) (word ∷ parts)
more_numbers most number numbers word parts spelled small are = record {
  spelled = (spelled, are.spelled);
  small = (omega (arith, small), are.small);
  few = omega (arith, are.few);
}

numbers_found : (most : ℕ) (parts : List (List ℕ)) (numbers : List ℕ) → numbers_at most parts ≡ Some numbers → AreNumbers most numbers parts
numbers_found most [] numbers e =
    subst (λ numbers. AreNumbers most numbers []) (same_Some _ _ e) (record { spelled = refl; small = tt; few = omega arith })
numbers_found zero (part ∷ parts) numbers e = absurd (none-some numbers e)
numbers_found (suc most) (part ∷ parts) numbers e =
    let read = begun _ _ _ e in
    let more = begun _ _ _ read.2 in
    let number = numeral_found 10 0 4294967295 (part ∷ parts) read.0 read.1 in
    let others = numbers_found most parts more.0 more.1 in
    subst (λ numbers. AreNumbers (suc most) numbers (part ∷ parts)) (same_Some _ _ more.2)
    (subst (λ words. AreNumbers (suc most) (read.0.0 ∷ more.0) words) (sym (number.words_are ∙ ap (λ rest. number.word ∷ rest) (sym (same_rest _ _ _ _ number.words_are))))
    (more_numbers most read.0.0 more.0 number.word parts number.spelled number.greatest others))

numbers_only : (most : ℕ) (numbers : List ℕ) (parts : List (List ℕ)) → SpellsEach (SpellsNumber 10 10) numbers parts
    → AllBelowBase (2 ^ 32) numbers → length numbers ≤ most → numbers_at most parts ≡ Some numbers
numbers_only most [] parts spelled small few = ap (numbers_at most) spelled
numbers_only most (number ∷ numbers) [] spelled small few = absurd spelled
numbers_only zero (number ∷ numbers) (part ∷ parts) spelled small few = absurd (omega (arith, few))
numbers_only (suc most) (number ∷ numbers) (part ∷ parts) spelled small few =
    goes_on _ _ _ (numeral_only 10 0 4294967295 number part parts spelled.0 (omega arith) (omega (arith, small.0)))
    ∙ goes_on _ _ _ (numbers_only most numbers parts spelled.1 small.1 (omega (arith, few)))

second_small : (first second : ℕ) → first ≤ 2 → second ≤ most_second first → (first < 2 → second < 40) × (40 * first + second < 2 ^ 32)
second_small zero second low within = (λ _. omega arith, omega arith)
second_small (suc zero) second low within = (λ _. omega arith, omega arith)
second_small (suc (suc zero)) second low within = (λ small. absurd (omega arith), omega arith)
second_small (suc (suc (suc n))) second low within = absurd (omega arith)

second_within : (first second : ℕ) → first ≤ 2 → (first < 2 → second < 40) → 40 * first + second < 2 ^ 32 → second ≤ most_second first
second_within zero second low small sum = omega (arith, small (omega arith))
second_within (suc zero) second low small sum = omega (arith, small (omega arith))
second_within (suc (suc zero)) second low small sum = omega (arith, sum)
second_within (suc (suc (suc n))) second low small sum = absurd (omega arith)

-- the name that parts are
abbrev name_at : List (List ℕ) → Option (List ℕ)
name_at parts =
    decimal_at 10 0 2 parts
    >>= (λ first. decimal_at 10 0 (most_second first.0) first.1
    >>= (λ second. numbers_at 126 second.1 >>= (λ others. Some (first.0 ∷ second.0 ∷ others))))

name_of_parts : (word : List ℕ) → name_of word ≡ name_at (parts_of 46 word)
unfolding name_of
name_of_parts word = refl

record IsNamed (numbers : List ℕ) (parts : List (List ℕ)) : Type 0 where
  within : IsNameInLimits numbers
  spelled : SpellsEach (SpellsNumber 10 10) numbers parts

named_found : (parts : List (List ℕ)) (numbers : List ℕ) → name_at parts ≡ Some numbers → IsNamed numbers parts
named_found parts numbers e =
    let one = begun _ _ _ e in
    let two = begun _ _ _ one.2 in
    let more = begun _ _ _ two.2 in
    let first = numeral_found 10 0 2 parts one.0 one.1 in
    let second = numeral_found 10 0 (most_second one.0.0) one.0.1 two.0 two.1 in
    let others = numbers_found 126 two.0.1 more.0 more.1 in
    let limits = second_small one.0.0 two.0.0 first.greatest second.greatest in
    let words : parts ≡ first.word ∷ second.word ∷ two.0.1 = first.words_are ∙ ap (λ rest. first.word ∷ rest) second.words_are in
    subst (λ numbers. IsNamed numbers parts) (same_Some _ _ more.2) (record {
      within = (first.greatest, limits.0, limits.1, others.small, others.few);
      spelled = subst (SpellsEach (SpellsNumber 10 10) (one.0.0 ∷ two.0.0 ∷ more.0)) (sym words) (first.spelled, (second.spelled, others.spelled));
    })

named_only : (numbers : List ℕ) (parts : List (List ℕ)) → IsNameInLimits numbers → SpellsEach (SpellsNumber 10 10) numbers parts
    → name_at parts ≡ Some numbers
named_only [] parts within spelled = absurd within
named_only (a ∷ []) parts within spelled = absurd within
named_only (a ∷ b ∷ others) [] within spelled = absurd spelled
named_only (a ∷ b ∷ others) (first ∷ []) within spelled = absurd spelled.1
named_only (a ∷ b ∷ others) (first ∷ second ∷ rest) within spelled =
    goes_on _ _ _ (numeral_only 10 0 2 a first (second ∷ rest) spelled.0 (omega arith) within.0)
    ∙ goes_on _ _ _ (numeral_only 10 0 (most_second a) b second rest spelled.1.0 (omega arith) (second_within a b within.0 within.1 within.2))
    ∙ goes_on _ _ _ (numbers_only 126 others rest spelled.1.1 within.3 within.4)

pub name_found : (word numbers : List ℕ) → name_of word ≡ Some numbers → SpellsName numbers word
name_found word numbers e =
    let named = named_found (parts_of 46 word) numbers (sym (name_of_parts word) ∙ e) in
    record { within = named.within; parts = named.spelled }

pub name_only : (word numbers : List ℕ) → SpellsName numbers word → name_of word ≡ Some numbers
name_only word numbers spelled = name_of_parts word ∙ named_only numbers (parts_of 46 word) spelled.within spelled.parts

-- a word that spells a name is not empty
pub name_some : (word numbers : List ℕ) → SpellsName numbers word → 0 < length word
name_some [] [] spelled = absurd spelled.within
name_some [] (a ∷ []) spelled = absurd spelled.within
name_some [] (a ∷ b ∷ others) spelled = absurd (omega (arith, spelled.parts.0.numeral.0))
name_some (octet ∷ octets) numbers spelled = omega arith

-- ---- INTEGERs

positive_found : (digits : List ℕ) (number : ℤ) → positive_of digits ≡ Some number → SpellsPositive number digits
unfolding positive_of
positive_found digits number e =
    let size = begun _ _ _ e in
    let tests = cond_some _ _ _ size.2 in
    record {
      size = size.0;
      spelled = record { spelled = number_found 10 10 size.0 digits size.1; small = omega (arith, leb-true _ _ tests.0) };
      value = sym tests.1;
    }

negative_found : (digits : List ℕ) (number : ℤ) → negative_of digits ≡ Some number → SpellsNegative number (45 ∷ digits)
unfolding negative_of
negative_found digits number e =
    let size = begun _ _ _ e in
    let tests = cond_some _ _ _ size.2 in
    record {
      size = size.0;
      digits = digits;
      word_is = refl;
      spelled = number_found 10 10 size.0 digits size.1;
      small = leb-true _ _ tests.0;
      value = sym tests.1;
    }

integer_word_found : (word : List ℕ) (number : ℤ) → integer_of word ≡ Some number → SpellsInteger number word
integer_word_found [] number e = absurd (none-some number e)
integer_word_found (octet ∷ octets) number e =
    elim (cases_Bool (octet == 45)) [
      | inl dash ↦
          inr (subst (λ octet. SpellsNegative number (octet ∷ octets)) (sym (eqb-true octet 45 dash))
          (negative_found octets number (ap (λ b. cond b (negative_of octets) (positive_of (octet ∷ octets))) (sym dash) ∙ e)))
      | inr other ↦ inl (positive_found (octet ∷ octets) number (ap (λ b. cond b (negative_of octets) (positive_of (octet ∷ octets))) (sym other) ∙ e))
    ]

positive_only : (word : List ℕ) (number : ℤ) → SpellsPositive number word → positive_of word ≡ Some number
unfolding positive_of
positive_only word number spelled =
    goes_on _ _ _ (number_only 10 10 spelled.size word spelled.spelled.spelled)
    ∙ ap (λ b. cond b (Some (pos spelled.size)) None) (le-leb spelled.size 4294967295 (omega (arith, spelled.spelled.small)))
    ∙ ap Some (sym spelled.value)

negative_only : (digits : List ℕ) (size : ℕ) (number : ℤ) → SpellsNumber 10 10 size digits → size ≤ 2147483648 → number ≡ neg_ℤ (pos size)
    → negative_of digits ≡ Some number
unfolding negative_of
negative_only digits size number spelled small value =
    goes_on _ _ _ (number_only 10 10 size digits spelled)
    ∙ ap (λ b. cond b (Some (neg_ℤ (pos size))) None) (le-leb size 2147483648 small)
    ∙ ap Some (sym value)

-- a number does not begin with `-`
not_dash : (octet size : ℕ) (octets : List ℕ) → SpellsNumber 10 10 size (octet ∷ octets) → (octet == 45) ≡ false
not_dash octet size octets spelled =
    elim (cases_Bool (octet == 45)) [
      | inl dash ↦
          let digit : is_digit octet 10 ≡ true = (and_parts _ _ (digits_test 10 (octet ∷ octets) spelled.numeral.1)).0 in
          absurd (both_ways (is_digit 45 10) refl (subst (λ octet. is_digit octet 10 ≡ true) (eqb-true octet 45 dash) digit))
      | inr other ↦ other
    ]

from_positive : (word : List ℕ) (number : ℤ) → SpellsPositive number word → integer_of word ≡ Some number
from_positive [] number spelled = absurd (omega (arith, spelled.spelled.spelled.numeral.0))
from_positive (octet ∷ octets) number spelled =
    ap (λ b. cond b (negative_of octets) (positive_of (octet ∷ octets))) (not_dash octet spelled.size octets spelled.spelled.spelled)
    ∙ positive_only (octet ∷ octets) number spelled

integer_word_only : (word : List ℕ) (number : ℤ) → SpellsInteger number word → integer_of word ≡ Some number
integer_word_only word number (inl spelled) = from_positive word number spelled
integer_word_only word number (inr spelled) =
    ap integer_of spelled.word_is ∙ negative_only spelled.digits spelled.size number spelled.spelled spelled.small spelled.value

integer_some : (word : List ℕ) (number : ℤ) → SpellsInteger number word → 0 < length word
integer_some word number (inl spelled) = spelled.spelled.spelled.numeral.0
integer_some word number (inr spelled) = omega (arith, ap length spelled.word_is)

pub record FoundInteger (words : List (List ℕ)) (found : ℤ × List (List ℕ)) : Type 0 where
  pub word : List ℕ
  pub words_are : words ≡ word ∷ found.1
  pub spelled : SpellsInteger found.0 word

pub integer_found : (words : List (List ℕ)) (found : ℤ × List (List ℕ)) → integer_at words ≡ Some found → FoundInteger words found
unfolding integer_at
integer_found words found e =
    let read = begun _ _ _ e in
    let number = begun _ _ _ read.2 in
    subst (FoundInteger words) (same_Some _ _ number.2) (record {
      word = read.0.0;
      words_are = (word_found words read.0 read.1).0;
      spelled = integer_word_found read.0.0 number.0 number.1;
    })

pub integer_only : (word : List ℕ) (rest : List (List ℕ)) (number : ℤ) → SpellsInteger number word → integer_at (word ∷ rest) ≡ Some (number, rest)
unfolding integer_at
integer_only word rest number spelled =
    goes_on _ _ _ (word_only word rest (integer_some word number spelled)) ∙ goes_on _ _ _ (integer_word_only word number spelled)
