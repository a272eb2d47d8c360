-- A word spells octets where it is one pair of digits or more.
use Rattle.std.proofs.Common.{◌≡◌, ℕ, ◌*◌, ◌%◌, ◌==◌, ◌<◌, ◌&&◌, Bool, true, false, cond, List, [], ◌∷◌, length, Option, Some, None, is_some, Result, Ok, Err, refl, sym, ap, ◌∙◌, arith}
use Rattle.std.specs.Prelude.{nat_lt}
use Rattle.std.specs.List.{list_all, AllPass}
use Rattle.std.proofs.lemmas.Bool.{and_parts, ltb-true, lt-ltb, eqb-true, eq-eqb}
use Rattle.std.proofs.lemmas.List.Elements.{All-cons, All-head, All-nil, All-tail}
use Rattle.hex.specs.Hex.{decode_of, is_hex_digit}
use Rattle.hex.specs.declared.error.FromHexError.{FromHexError}
use Rattle.hex.proofs.HexLemmas.{decode_of-ok, decode_of-digits}
use Rattle.dms_text.specs.Reading.{is_dash, octets_of, octets_decoded, are_pairs}

abbrev IsDigit : ℕ → Type 0
IsDigit c = is_hex_digit c ≡ true

all_digits : (word : List ℕ) → list_all is_hex_digit word ≡ true → AllPass is_hex_digit word
all_digits [] all = All-nil IsDigit
all_digits (c ∷ word) all = let parts = and_parts _ _ all in All-cons IsDigit c word parts.0 (all_digits word parts.1)

digits_all : (word : List ℕ) → AllPass is_hex_digit word → list_all is_hex_digit word ≡ true
digits_all [] all = refl
digits_all (c ∷ word) all = rw (All-head IsDigit c word all) (digits_all word (All-tail IsDigit c word all))

some_octets : (octets : List ℕ) → 0 < length octets → is_some (octets_decoded (Ok octets)) ≡ true
some_octets [] some = absurd (omega arith)
some_octets (octet ∷ octets) some = refl

of_octets : (read : Result (List ℕ) FromHexError) → is_some (octets_decoded read) ≡ true → (octets : List ℕ) × (read ≡ Ok octets) × (0 < length octets)
of_octets (Ok []) some = cc some
of_octets (Ok (octet ∷ octets)) some = (octet ∷ octets, refl, omega arith)
of_octets (Err fault) some = cc some

pairs_spell : (word : List ℕ) → are_pairs word ≡ true → is_some (octets_decoded (decode_of word)) ≡ true
pairs_spell word are =
    let parts = and_parts (nat_lt 0 (length word)) (length word % 2 == 0 && list_all is_hex_digit word) are in
    let rest = and_parts (length word % 2 == 0) (list_all is_hex_digit word) parts.1 in
    let some : 0 < length word = ltb-true 0 (length word) parts.0 in
    let read = decode_of-digits word (eqb-true (length word % 2) 0 rest.0) (all_digits word rest.1) in
    let is = decode_of-ok word read.0 read.1 in
    let long : length word ≡ 2 * length read.0 = is.2 in
    let filled : 0 < length read.0 = omega arith in
    ap (λ (r : Result (List ℕ) FromHexError). is_some (octets_decoded r)) read.1 ∙ some_octets read.0 filled

spelled_pairs : (word : List ℕ) → is_some (octets_decoded (decode_of word)) ≡ true → are_pairs word ≡ true
spelled_pairs word some =
    let read = of_octets (decode_of word) some in
    let is = decode_of-ok word read.0 read.1 in
    let long : length word ≡ 2 * length read.0 = is.2 in
    let first = lt-ltb 0 (length word) (omega (arith, long, read.2)) in
    let even = eq-eqb (length word % 2) 0 is.0 in
    grind (arith, first, even, digits_all word is.1)

same_test : (a b : Bool) → (a ≡ true → b ≡ true) → (b ≡ true → a ≡ true) → a ≡ b
same_test a b there back = grind arith

pub pairs : (word : List ℕ) → are_pairs word ≡ is_some (octets_decoded (decode_of word))
pairs word = same_test _ _ (pairs_spell word) (spelled_pairs word)

none_of : (found : Option (List ℕ)) → is_some found ≡ false → None ≡ found
none_of None none = refl
none_of (Some octets) none = cc none

pub spelled : (word : List ℕ) → are_pairs word ≡ true → is_some (octets_decoded (decode_of word)) ≡ true
spelled word are = sym (pairs word) ∙ are

pub not_spelled : (word : List ℕ) → are_pairs word ≡ false → None ≡ octets_decoded (decode_of word)
not_spelled word not = none_of _ (sym (pairs word) ∙ not)

pub not_digits : (word : List ℕ) → list_all is_hex_digit word ≡ false → None ≡ octets_decoded (decode_of word)
not_digits word not = not_spelled word (none (nat_lt 0 (length word)) (length word % 2 == 0) (list_all is_hex_digit word) not)
  where
    none : (some even digits : Bool) → digits ≡ false → (some && (even && digits)) ≡ false
    none true true digits e = e
    none true false digits e = refl
    none false even digits e = refl

pub not_even : (word : List ℕ) → is_dash word ≡ false → (nat_lt 0 (length word) && length word % 2 == 0) ≡ false → None ≡ octets_of word
unfolding octets_of
not_even word dash odd =
    not_spelled word (none (nat_lt 0 (length word)) (length word % 2 == 0) (list_all is_hex_digit word) odd)
    ∙ sym (ap (λ b. cond b (Some []) (octets_decoded (decode_of word))) dash)
  where
    none : (some even digits : Bool) → (some && even) ≡ false → (some && (even && digits)) ≡ false
    none true true digits e = absurd cc
    none true false digits e = refl
    none false even digits e = refl
