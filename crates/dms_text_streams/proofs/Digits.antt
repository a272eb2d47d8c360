-- The digits of octets are those of the first of them, and then those of the others.
use Rattle.std.proofs.Common.{◌≡◌, ℕ, true, List, [], ◌∷◌, ◌++◌, ◌==◌, length, take, drop, refl, sym, ap, ◌∙◌, append_assoc, append-nil, arith}
use Rattle.std.proofs.lemmas.Bool.Decides.{nat_tests}
use Rattle.std.specs.Prelude.{slice_index, ◌/◌, ◌%◌}
use Rattle.std.proofs.lemmas.List.{take-append-drop}
use Rattle.hex.specs.Hex.{encode_with, encode_lower, lower_digits}

encode_append : (table first others : List ℕ) → encode_with table (first ++ others) ≡ encode_with table first ++ encode_with table others
unfolding encode_with
encode_append table [] others = refl
encode_append table (octet ∷ first) others =
    ap (λ rest. slice_index table (octet / 16) ∷ slice_index table (octet % 16) ∷ rest) (encode_append table first others)

-- more digits are written
pub digits_more : (old now next octets rest others : List ℕ) (count : ℕ) → now ++ encode_lower rest ≡ old ++ encode_lower octets
    → next ≡ now ++ encode_lower (take count rest) → others ≡ drop count rest → next ++ encode_lower others ≡ old ++ encode_lower octets
digits_more old now next octets rest others count so_far more cut =
    ap (λ text. text ++ encode_lower others) more
    ∙ append_assoc now (encode_lower (take count rest)) (encode_lower others)
    ∙ ap (λ others. now ++ (encode_lower (take count rest) ++ encode_lower others)) cut
    ∙ ap (λ digits. now ++ digits) (sym (encode_append lower_digits (take count rest) (drop count rest)))
    ∙ ap (λ octets. now ++ encode_lower octets) (take-append-drop count rest)
    ∙ so_far

is_none : (n : ℕ) → (n == 0) ≡ true → n ≡ 0
is_none n none = grind (arith, nat_tests)

-- no more are left to be written
pub no_more_digits : (old now octets rest : List ℕ) → (length rest == 0) ≡ true → now ++ encode_lower rest ≡ old ++ encode_lower octets
    → now ≡ old ++ encode_lower octets
unfolding encode_with
no_more_digits old now octets [] none so_far = sym (append-nil now) ∙ so_far
no_more_digits old now octets (octet ∷ rest) none so_far = let zero = is_none _ none in absurd (omega (arith, zero))
