-- Octets are read of their small digits, and of no others.
use Rattle.std.proofs.Common.{◌≡◌, ℕ, zero, suc, ◌+◌, ◌-◌, ◌*◌, ◌/◌, ◌%◌, ◌<◌, ◌≤◌, ◌==◌, ◌||◌, ◌&&◌, Bool, true, false, cond, not, is_some, List, [], ◌∷◌, length, nat_le, nat_lt, slice_index, All, Some, None, Result, Ok, Err, codes, refl, sym, ap, ◌∙◌, arith, inl, inr}
use Rattle.std.specs.List.{list_all}
use Rattle.std.specs.Int.Digits.{AllBelowBase}
use Rattle.std.proofs.lemmas.Bool.Decides.{nat_tests}
use Rattle.std.proofs.lemmas.Bool.{and_parts, and_from, or_from, leb-true, le-leb, ltb-true, eqb-true, ne_eqb, cases_lt}
use Rattle.std.proofs.lemmas.Option.{same_Some}
use Rattle.std.proofs.lemmas.List.Elements.{All-head, All-tail}
use Rattle.hex.specs.Hex.{IsBytes, decode_of, decode_sized, encode_lower, encode_with, is_hex_digit, lower_digits}
use Rattle.hex.specs.declared.error.FromHexError.{FromHexError}
use Rattle.hex.proofs.HexLemmas.{decode_of-ok, decode_of-same, decode_of-encode_lower, decode_sized-ok, decode_sized-twice, decode_sized-encode_lower, length-encode_with}
use Rattle.dms_text.specs.Octets.{SpellsOctets}
use Rattle.dms_text.specs.Reading.{is_dash, octets_of, octets_decoded}
use Rattle.dms_text.proofs.DigitPairs.{pairs}
use Rattle.dms_text.proofs.WordLaws.{octets_found, octets_only}
use Rattle.dms_text_values.specs.ValueText.{octets_text}
use Rattle.dms_text_exact.specs.ExactWords.{is_small_digit, are_written, octets_in, decoded, code_in}
use Rattle.dms_text_exact.specs.Fronts.{IsFree}
use Rattle.dms_text_exact.proofs.Tests.{if_true}

-- ---- digits

-- a small digit and its value
record IsDigitOf (c v : ℕ) : Type 0 where
  small : v < 16
  is : slice_index lower_digits v ≡ c

abbrev value : ℕ → ℕ
value c = cond (nat_le c 57) (c - 48) (c - 87)

abbrev test : ℕ → Bool
test c = not (is_small_digit c) || (nat_lt (value c) 16 && slice_index lower_digits (value c) == c)

abbrev all_tested : ℕ → Bool
all_tested zero = true
all_tested (suc n) = test n && all_tested n

tested_at : (n k : ℕ) → all_tested n ≡ true → k < n → test k ≡ true
tested_at zero k h less = absurd (omega arith)
tested_at (suc n) k h less =
    let parts = and_parts (test n) (all_tested n) h in
    elim (cases_lt k n) [
      | inl below ↦ tested_at n k parts.1 below
      | inr top ↦ let e : k ≡ n = omega arith in ap (λ k. test k) e ∙ parts.0
    ]

digit_below : (c : ℕ) → is_small_digit c ≡ true → c < 103
digit_below c e =
    elim (cases_lt c 103) [
      | inl less ↦ less
      | inr more ↦ absurd (let never : false ≡ true = sym (above c more) ∙ e in cc)
    ]
  where
    above : (c : ℕ) → 103 ≤ c → is_small_digit c ≡ false
    above c more = grind (arith, nat_tests)

digit_of : (c : ℕ) → is_small_digit c ≡ true → IsDigitOf c (value c)
digit_of c e =
    let tests = and_parts (nat_lt (value c) 16) (slice_index lower_digits (value c) == c)
    (other (is_small_digit c) (nat_lt (value c) 16 && slice_index lower_digits (value c) == c) e (tested_at 103 c refl (digit_below c e))) in
    record { small = ltb-true (value c) 16 tests.0; is = eqb-true (slice_index lower_digits (value c)) c tests.1 }
  where
    other : (a b : Bool) → a ≡ true → (not a || b) ≡ true → b ≡ true
    other true b e is = is
    other false b e is = absurd cc

-- a digit of the table is small
small_digit : (k : ℕ) → k < 16 → is_small_digit (slice_index lower_digits k) ≡ true
small_digit k less = all_from 16 k refl less
  where
    all : ℕ → Bool
    all zero = true
    all (suc n) = is_small_digit (slice_index lower_digits n) && all n

    all_from : (n k : ℕ) → all n ≡ true → k < n → is_small_digit (slice_index lower_digits k) ≡ true
    all_from zero k h less = absurd (omega arith)
    all_from (suc n) k h less =
        let parts = and_parts (is_small_digit (slice_index lower_digits n)) (all n) h in
        elim (cases_lt k n) [
          | inl below ↦ all_from n k parts.1 below
          | inr top ↦ let e : k ≡ n = omega arith in ap (λ n. is_small_digit (slice_index lower_digits n)) e ∙ parts.0
        ]

pub small_digits : (octets : List ℕ) → IsBytes octets → list_all is_small_digit (encode_lower octets) ≡ true
unfolding encode_with
small_digits [] all = refl
small_digits (b ∷ rest) all =
    let small : b < 256 = all 0 in
    and_from _ _ (small_digit (b / 16) (omega arith)) (and_from _ _ (small_digit (b % 16) (omega arith)) (small_digits rest (λ i. all (suc i))))

-- no small digit is below `0`
pub small_free : (end : ℕ) (word : List ℕ) → end < 48 → list_all is_small_digit word ≡ true → IsFree end word
small_free end [] low e = refl
small_free end (c ∷ word) low e =
    let parts = and_parts (is_small_digit c) (list_all is_small_digit word) e in
    or_from _ _ (ne_eqb c end (λ is. omega (arith, low, is, from_zero c parts.0))) (small_free end word low parts.1)
  where
    from_zero : (c : ℕ) → is_small_digit c ≡ true → 48 ≤ c
    from_zero c e =
        elim (cases_lt c 48) [
          | inl less ↦ absurd (let never : false ≡ true = sym (under c less) ∙ e in cc)
          | inr more ↦ more
        ]
      where
        under : (c : ℕ) → c < 48 → is_small_digit c ≡ false
        under c less = grind (arith, nat_tests)

pub hex_free : (end : ℕ) (octets : List ℕ) → end < 48 → IsBytes octets → IsFree end (encode_lower octets)
hex_free end octets low all = small_free end (encode_lower octets) low (small_digits octets all)

-- ---- pairs of digits

-- octets whose digits a word has
pub record IsHex (word : List ℕ) : Type 0 where
  pub octets : List ℕ
  pub bytes : IsBytes octets
  pub digits : word ≡ encode_lower octets

pub bytes_more : (octet : ℕ) (octets : List ℕ) → octet < 256 → IsBytes octets → IsBytes (octet ∷ octets)
bytes_more octet octets small all zero = small
bytes_more octet octets small all (suc i) = all i

pub bytes_below : (octets : List ℕ) → AllBelowBase 256 octets → IsBytes octets
bytes_below [] below = λ i. omega arith
bytes_below (octet ∷ octets) below = bytes_more octet octets below.0 (bytes_below octets below.1)

pub all_bytes : (octets : List ℕ) → All (λ octet. octet < 256) octets → IsBytes octets
all_bytes [] all = λ i. omega arith
all_bytes (octet ∷ octets) all =
    bytes_more octet octets (All-head (λ octet. octet < 256) octet octets all) (all_bytes octets (All-tail (λ octet. octet < 256) octet octets all))

one_pair : (a b v w : ℕ) (rest : List ℕ) → IsDigitOf a v → IsDigitOf b w → IsHex rest → IsHex (a ∷ b ∷ rest)
unfolding encode_with
one_pair a b v w rest first second more =
    let octet = v * 16 + w in
    let high : octet / 16 ≡ v = omega (arith, second.small) in
    let low : octet % 16 ≡ w = omega (arith, second.small) in
    record {
      octets = octet ∷ more.octets;
      bytes = bytes_more octet more.octets (omega (arith, first.small, second.small)) more.bytes;
      digits =
          sym (ap (λ n. slice_index lower_digits n ∷ slice_index lower_digits (octet % 16) ∷ encode_lower more.octets) high
          ∙ ap (λ n. slice_index lower_digits v ∷ slice_index lower_digits n ∷ encode_lower more.octets) low
          ∙ ap (λ c. c ∷ slice_index lower_digits w ∷ encode_lower more.octets) first.is
          ∙ ap (λ c. a ∷ c ∷ encode_lower more.octets) second.is
          ∙ ap (λ digits. a ∷ b ∷ digits) (sym more.digits));
    }

pairs_found : (word : List ℕ) → length word % 2 ≡ 0 → list_all is_small_digit word ≡ true → IsHex word
unfolding encode_with
pairs_found [] even all = record { octets = []; bytes = λ i. omega arith; digits = refl }
pairs_found (a ∷ []) even all = absurd (omega (arith, even))
pairs_found (a ∷ b ∷ rest) even all =
    let one = and_parts (is_small_digit a) (is_small_digit b && list_all is_small_digit rest) all in
    let two = and_parts (is_small_digit b) (list_all is_small_digit rest) one.1 in
    one_pair a b (value a) (value b) rest (digit_of a one.0) (digit_of b two.0) (pairs_found rest (omega (arith, even)) two.1)

-- what small digits decode to has those digits
pub record Decodes (octets word : List ℕ) : Type 0 where
  pub bytes : IsBytes octets
  pub long : length word ≡ 2 * length octets
  pub digits : word ≡ encode_lower octets

pub decodes : (word octets : List ℕ) → decode_of word ≡ Ok octets → list_all is_small_digit word ≡ true → Decodes octets word
decodes word octets e small =
    let ok = decode_of-ok word octets e in
    let hex = pairs_found word ok.0 small in
    let same : hex.octets ≡ octets =
    decode_of-same word hex.octets octets (ap (λ word. decode_of word) hex.digits ∙ decode_of-encode_lower hex.octets hex.bytes) e in
    record { bytes = ok.3; long = ok.2; digits = hex.digits ∙ ap (λ octets. encode_lower octets) same }

-- ---- the words of octets

dash_decodes : (word : List ℕ) (octets : List ℕ) → is_dash word ≡ true → decode_of word ≡ Ok octets → ⊥
dash_decodes [] octets dash e = absurd cc
dash_decodes (octet ∷ []) octets dash e = absurd (omega (arith, (decode_of-ok (octet ∷ []) octets e).2))
dash_decodes (octet ∷ other ∷ word) octets dash e = absurd cc

are_small : (word : List ℕ) (octets : List ℕ) → (is_dash word || list_all is_small_digit word) ≡ true → decode_of word ≡ Ok octets → list_all is_small_digit word ≡ true
are_small word octets e is = of_cases (is_dash word) (list_all is_small_digit word) refl e
  where
    of_cases : (dash small : Bool) → is_dash word ≡ dash → (dash || small) ≡ true → small ≡ true
    of_cases true small isnt e = absurd (dash_decodes word octets isnt is)
    of_cases false small isnt e = e

of_spelled : (most : ℕ) (octets word : List ℕ) → length word / 2 ≤ most → (is_dash word || list_all is_small_digit word) ≡ true → SpellsOctets octets word
    → (length octets ≤ most) × IsBytes octets × (word ≡ octets_text octets)
of_spelled most [] word short small spelled = (omega arith, λ i. omega arith, spelled)
of_spelled most (octet ∷ octets) word short small spelled =
    let d = decodes word (octet ∷ octets) spelled (are_small word (octet ∷ octets) small spelled) in
    (omega (arith, d.long, short), d.bytes, d.digits)

pub octets_word_found : (most : ℕ) (word octets : List ℕ) → octets_in most word ≡ Some octets → (length octets ≤ most) × IsBytes octets × (word ≡ octets_text octets)
unfolding octets_in
octets_word_found most word octets e =
    let read = if_true (are_written most word) (octets_of word) octets e in
    let tests = and_parts (nat_le (length word / 2) most) (is_dash word || list_all is_small_digit word) read.0 in
    of_spelled most octets word (leb-true _ _ tests.0) tests.1 (octets_found octets word read.1)

taken : (most : ℕ) (octets word : List ℕ) → length word / 2 ≤ most → (is_dash word || list_all is_small_digit word) ≡ true → SpellsOctets octets word → octets_in most word ≡ Some octets
unfolding octets_in
taken most octets word short small spelled =
    ap (λ b. cond b (octets_of word) None) (and_from _ _ (le-leb (length word / 2) most short) small) ∙ octets_only octets word spelled

or_true : (a b : Bool) → b ≡ true → (a || b) ≡ true
or_true true b e = refl
or_true false b e = e

pub spells_octets : (octets : List ℕ) → IsBytes octets → SpellsOctets octets (octets_text octets)
spells_octets [] all = refl
spells_octets (octet ∷ octets) all = decode_of-encode_lower (octet ∷ octets) all

pub octets_word_only : (most : ℕ) (octets : List ℕ) → length octets ≤ most → IsBytes octets → octets_in most (octets_text octets) ≡ Some octets
octets_word_only most [] few all = taken most [] (codes "-") (omega arith) refl refl
octets_word_only most (octet ∷ octets) few all =
    taken most (octet ∷ octets) (encode_lower (octet ∷ octets)) (omega (arith, length-encode_with lower_digits (octet ∷ octets), few))
    (or_true _ _ (small_digits (octet ∷ octets) all)) (spells_octets (octet ∷ octets) all)

pub octets_free : (end : ℕ) (octets : List ℕ) → end < 45 → IsBytes octets → IsFree end (octets_text octets)
octets_free end [] low all = or_from _ _ (ne_eqb 45 end (λ e. omega (arith, low, e))) refl
octets_free end (octet ∷ octets) low all = hex_free end (octet ∷ octets) (omega (arith, low)) all

pub octets_some : (octets : List ℕ) → 0 < length (octets_text octets)
octets_some [] = omega arith
octets_some (octet ∷ octets) = omega (arith, length-encode_with lower_digits (octet ∷ octets))

-- ---- the test of a word

pub small_is_hex : (word : List ℕ) → list_all is_small_digit word ≡ true → list_all is_hex_digit word ≡ true
small_is_hex [] e = refl
small_is_hex (c ∷ word) e =
    let parts = and_parts (is_small_digit c) (list_all is_small_digit word) e in
    and_from _ _ (one c parts.0) (small_is_hex word parts.1)
  where
    one : (c : ℕ) → is_small_digit c ≡ true → is_hex_digit c ≡ true
    one c e = grind (arith, nat_tests)

abbrev pub are_even : List ℕ → Bool
are_even word = nat_lt 0 (length word) && length word % 2 == 0

whole_tested : (word : List ℕ) → (is_dash word || list_all is_small_digit word) ≡ true → (is_dash word || are_even word) ≡ is_some (octets_of word)
unfolding octets_of
whole_tested word small = of_cases (is_dash word) (list_all is_small_digit word) refl refl small
  where
    of_cases : (dash all : Bool) → is_dash word ≡ dash → list_all is_small_digit word ≡ all → (dash || all) ≡ true → (is_dash word || are_even word) ≡ is_some (octets_of word)
    of_cases true all dash are e = ap (λ b. b || are_even word) dash ∙ sym (ap (λ b. is_some (cond b (Some []) (octets_decoded (decode_of word)))) dash)
    of_cases false true dash are e = grind (arith, pairs word, small_is_hex word are)
    of_cases false false dash are e = absurd cc

pub whole_of : (most : ℕ) (word : List ℕ) → are_written most word ≡ true → (is_dash word || are_even word) ≡ is_some (octets_in most word)
unfolding octets_in
whole_of most word all =
    let parts = and_parts (nat_le (length word / 2) most) (is_dash word || list_all is_small_digit word) all in
    whole_tested word parts.1 ∙ sym (ap (λ b. is_some (cond b (octets_of word) None)) all)

pub not_written : (most : ℕ) (word : List ℕ) (written : Bool) → written ≡ are_written most word → written ≡ false → written ≡ is_some (octets_in most word)
unfolding octets_in
not_written most word written is fails = fails ∙ sym (ap (λ b. is_some (cond b (octets_of word) None)) (sym is ∙ fails))

pub dash_written : (most : ℕ) (word : List ℕ) (written dash : Bool) → written ≡ are_written most word → written ≡ true → dash ≡ is_dash word → dash ≡ true
    → dash ≡ is_some (octets_in most word)
dash_written most word written dash is holds dashed e =
    e ∙ ap (λ b. b || are_even word) (sym (sym dashed ∙ e)) ∙ whole_of most word (sym is ∙ holds)

pub even_written : (most : ℕ) (word : List ℕ) (written dash even : Bool) → written ≡ are_written most word → written ≡ true → dash ≡ is_dash word → dash ≡ false
    → even ≡ are_even word → even ≡ is_some (octets_in most word)
even_written most word written dash even is holds dashed fails tested =
    tested ∙ ap (λ b. b || are_even word) (sym (sym dashed ∙ fails)) ∙ whole_of most word (sym is ∙ holds)

pub ruleset tested = (not_written, dash_written, even_written)

-- ---- codes

pub text_is : (octets : List ℕ) → 0 < length octets → octets_text octets ≡ encode_lower octets
text_is [] some = absurd (omega (arith, some))
text_is (octet ∷ octets) some = refl

decoded_ok : (r : Result (List ℕ) FromHexError) (octets : List ℕ) → decoded r ≡ Some octets → r ≡ Ok octets
decoded_ok (Ok other) octets e = ap Ok (same_Some other octets e)
decoded_ok (Err fault) octets e = absurd cc

pub code_word_found : (size : ℕ) (word octets : List ℕ) → 0 < size → code_in size word ≡ Some octets → (length octets ≡ size) × IsBytes octets × (word ≡ octets_text octets)
unfolding code_in
code_word_found size word octets some e =
    let tests = if_true (list_all is_small_digit word) (decoded (decode_sized word size)) octets e in
    let read = decoded_ok (decode_sized word size) octets tests.1 in
    let long = decode_sized-ok word size octets read in
    let d = decodes word octets (sym (decode_sized-twice word size long) ∙ read) tests.0 in
    let same : length octets ≡ size = omega (arith, long, d.long) in
    (same, d.bytes, d.digits ∙ sym (text_is octets (omega (arith, same, some))))

pub code_word_only : (size : ℕ) (octets : List ℕ) → 0 < size → length octets ≡ size → IsBytes octets → code_in size (octets_text octets) ≡ Some octets
unfolding code_in
code_word_only size octets some same all =
    ap (λ word. code_in size word) (text_is octets (omega (arith, same, some)))
    ∙ ap (λ b. cond b (decoded (decode_sized (encode_lower octets) size)) None) (small_digits octets all)
    ∙ ap decoded (decode_sized-encode_lower octets size same all)
