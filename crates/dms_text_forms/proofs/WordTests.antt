-- Octets and codes are told by their digits alone.
use Rattle.std.proofs.Common.{◌≡◌, ℕ, ◌==◌, ◌&&◌, ◌||◌, Bool, true, false, List, [], ◌∷◌, length, is_some, Result, Ok, Err, refl, ap, ◌∙◌, arith}
use Rattle.hex.specs.Hex.{decode_of}
use Rattle.hex.specs.declared.error.FromHexError.{FromHexError}
use Rattle.hex.proofs.HexLemmas.{decode_of-ok}
use Rattle.dms_text.specs.Reading.{octets_of, octets_decoded, is_dash, are_pairs}
use Rattle.dms_text.proofs.DigitPairs.{pairs}
use Rattle.dms_text_forms.specs.Form.{is_code, is_twelve}

octets_tested : (word : List ℕ) → (is_dash word || are_pairs word) ≡ is_some (octets_of word)
unfolding octets_of
octets_tested word = grind (arith, pairs word)

pub dash_is_octets : (word : List ℕ) (tested : Bool) → tested ≡ is_dash word → tested ≡ true → tested ≡ is_some (octets_of word)
dash_is_octets word tested is dash = grind (arith, octets_tested word)

pub octets_without_dash : (word : List ℕ) (dash tested : Bool) → dash ≡ is_dash word → dash ≡ false → tested ≡ are_pairs word
    → tested ≡ is_some (octets_of word)
octets_without_dash word dash tested is none of_pairs = grind (arith, octets_tested word)

twelve_read : (word : List ℕ) (read : Result (List ℕ) FromHexError) → decode_of word ≡ read → (length word == 24 && is_some (octets_decoded read)) ≡ is_twelve read
twelve_read word (Ok []) is = grind (arith, (decode_of-ok word [] is).2)
twelve_read word (Ok (octet ∷ octets)) is = grind (arith, (decode_of-ok word (octet ∷ octets) is).2)
twelve_read word (Err fault) is = grind arith

code_tested : (word : List ℕ) → (length word == 24 && are_pairs word) ≡ is_code word
code_tested word = ap (λ b. length word == 24 && b) (pairs word) ∙ twelve_read word (decode_of word) refl

pub code_of_pairs : (word : List ℕ) (tested : Bool) → length word ≡ 24 → tested ≡ are_pairs word → tested ≡ is_code word
code_of_pairs word tested long of_pairs = grind (arith, code_tested word)

pub no_code : (word : List ℕ) → (length word ≡ 24 → ⊥) → (length word == 24) ≡ is_code word
no_code word other = grind (arith, code_tested word)
