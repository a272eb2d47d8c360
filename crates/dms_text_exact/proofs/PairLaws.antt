-- Words of pairs of small digits decode to what they spell.
use Rattle.std.proofs.Common.{◌≡◌, ℕ, ◌/◌, ◌%◌, ◌<◌, ◌≤◌, ◌&&◌, true, false, inl, inr, arith, List, [], ◌∷◌, length, is_some, cond, ◌||◌, Option, Some, None, refl, sym, ap, ◌∙◌}
use Rattle.std.specs.List.{list_all}
use Rattle.std.proofs.lemmas.Bool.{and_from, le-leb, lt-ltb, eq-eqb, cases_Bool}
use Rattle.std.proofs.lemmas.Bool.Decides.{nat_tests}
use Rattle.hex.specs.Hex.{decode_of}
use Rattle.dms_text.specs.Reading.{is_dash, octets_of, octets_decoded}
use Rattle.dms_text.proofs.DigitPairs.{pairs}
use Rattle.dms_text_exact.specs.ExactWords.{is_small_digit, are_written, octets_in, small_decoded}
use Rattle.dms_text_exact.proofs.DigitLaws.{are_even, small_is_hex, whole_of, not_written}

-- ---- the words of pairs

pub small_some : (word : List ℕ) → 0 < length word → length word % 2 ≡ 0 → list_all is_small_digit word ≡ true → is_some (small_decoded word) ≡ true
small_some word some even small =
    let hex = and_from _ _ (eq-eqb (length word % 2) 0 even) (small_is_hex word small) in
    ap (λ b. is_some (cond b (octets_decoded (decode_of word)) None)) small
    ∙ (sym (pairs word) ∙ and_from _ _ (lt-ltb 0 (length word) some) hex)

pub dash_in : (most : ℕ) (word : List ℕ) → is_dash word ≡ true → Some [] ≡ octets_in most word
unfolding octets_in octets_of
dash_in most [] e = absurd cc
dash_in most (octet ∷ []) e = grind (arith, e)
dash_in most (octet ∷ other ∷ word) e = absurd cc

pub pairs_in : (most : ℕ) (word : List ℕ) → is_dash word ≡ false → length word / 2 ≤ most → small_decoded word ≡ octets_in most word
unfolding octets_in octets_of
pairs_in most word dash few =
    sym (ap (λ b. cond (b && (is_dash word || list_all is_small_digit word)) (octets_of word) None) (le-leb (length word / 2) most few)
    ∙ ap (λ b. cond (b || list_all is_small_digit word) (cond b (Some []) (octets_decoded (decode_of word))) None) dash)

none_of : (found : Option (List ℕ)) → is_some found ≡ false → None ≡ found
none_of None none = refl
none_of (Some octets) none = absurd cc

pub odd_in : (most : ℕ) (word : List ℕ) → is_dash word ≡ false → are_even word ≡ false → None ≡ octets_in most word
odd_in most word dash odd =
    elim (cases_Bool (are_written most word)) [
      | inl written ↦ none_of _ (sym (whole_of most word written) ∙ ap (λ b. b || are_even word) dash ∙ odd)
      | inr other ↦ none_of _ (sym (not_written most word (are_written most word) refl other) ∙ other)
    ]

pub long_in : (most : ℕ) (word : List ℕ) → most < length word / 2 → None ≡ octets_in most word
unfolding octets_in
long_in most word many = grind (arith, nat_tests)
