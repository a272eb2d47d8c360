-- A word that is spelled so is read as that, and what comes after is left.
use Rattle.std.proofs.Common.{◌≡◌, ℕ, ℤ, suc, ◌<◌, ◌≤◌, ◌^◌, true, cond, List, [], ◌∷◌, ◌++◌, length, is_some, Option, Some, None, decimal, refl, ap, ◌∙◌, arith}
use Rattle.std.specs.Fmt.{signed_decimal}
use Rattle.std.specs.List.{AllByRecursion}
use Rattle.hex.specs.Hex.{IsBytes, lower_digits}
use Rattle.hex.proofs.HexLemmas.{length-encode_with}
use Rattle.dms_wire_ber.specs.Integer.{in_range}
use Rattle.dms_wire_ber.specs.NameText.{dotted}
use Rattle.dms_text.specs.Words.{words_of}
use Rattle.dms_text.specs.Reading.{word_at, ◌>>=◌}
use Rattle.dms_text.proofs.WordLaws.{goes_on, word_only}
use Rattle.dms_text_forms.specs.LineText.{code_text}
use Rattle.dms_text_values.specs.ValueText.{octets_text}
use Rattle.dms_text_exact.specs.ExactWords as exact
use Rattle.dms_text_exact.specs.Fronts.{IsFree}
use Rattle.dms_text_exact.proofs.FrontLaws.{free_append, part_first, part_only}
use Rattle.dms_text_exact.proofs.DigitLaws.{all_bytes, octets_word_only, octets_free, octets_some, code_word_only, hex_free}
use Rattle.dms_text_exact.proofs.NumberLaws.{number_word_only, decimal_free, decimal_some, signed_free}
use Rattle.dms_text_exact.proofs.AddressLaws.{IsFour, four_of, address_word_only, address_free, address_some}
use Rattle.dms_codes.specs.declared.codes.Order.{Order}
use Rattle.dms_codes.specs.declared.codes.Order.TheVariants.{High, Swapped}
use Rattle.dms_codes.specs.declared.codes.Activation.{Activation}
use Rattle.dms_codes.specs.Codes.{octets_of_activation, activation_of, IsActivation}
use Rattle.dms_codes.proofs.Activations.{activation_back}
use Rattle.dms_centre_jobs.specs.Commands.{IsAddress}
use Rattle.dms_centre_state.proofs.Words.{code_bytes}
use Rattle.dms_centre_restored.specs.WordReading.{after_number, after_octets, after_address, code_in}

abbrev pub some : {A : Type 0} → A → Option A
some x = Some x

-- ---- words with a space between two

-- neither a space nor the end of a line is in it
pub record IsWord (word : List ℕ) : Type 0 where
  pub line : IsFree 10 word
  pub space : IsFree 32 word

abbrev pub spaced : List ℕ → List (List ℕ) → List ℕ
spaced word [] = word
spaced word (other ∷ words) = word ++ 32 ∷ spaced other words

pub words_spaced : (word : List ℕ) (words : List (List ℕ)) → IsWord word → AllByRecursion IsWord words → words_of (spaced word words) ≡ word ∷ words
words_spaced word [] is are = part_only 32 word is.space
words_spaced word (other ∷ words) is are =
    part_first 32 word (spaced other words) is.space ∙ ap (λ words. word ∷ words) (words_spaced other words are.0 are.1)

pub spaced_free : (word : List ℕ) (words : List (List ℕ)) → IsWord word → AllByRecursion IsWord words → IsFree 10 (spaced word words)
spaced_free word [] is are = is.line
spaced_free word (other ∷ words) is are = free_append 10 word (32 ∷ spaced other words) is.line (spaced_free other words are.0 are.1)

-- ---- numbers

pub decimal_word : (n : ℕ) → n < 2 ^ 64 → IsWord (decimal n)
decimal_word n small = record { line = decimal_free 10 n (omega arith) small; space = decimal_free 32 n (omega arith) small }

pub signed_word : (z : ℤ) → in_range z ≡ true → IsWord (signed_decimal z)
signed_word z is = record { line = signed_free 10 z (omega arith) is; space = signed_free 32 z (omega arith) is }

pub after_number_only : (low high n : ℕ) (rest : List (List ℕ)) → low ≤ n → n ≤ high → high < 10 ^ 10 → after_number low high (decimal n ∷ rest) ≡ Some rest
unfolding after_number
after_number_only low high n rest least most small =
    goes_on (word_at (decimal n ∷ rest)) (λ found. exact.number_in low high found.0 >>= (λ number. some found.1)) (decimal n, rest)
    (word_only (decimal n) rest (decimal_some n (omega (arith, most, small))))
    ∙ goes_on (exact.number_in low high (decimal n)) (λ number. some rest) n (number_word_only low high n least most small)

-- ---- octets

pub after_octets_only : (most : ℕ) (octets : List ℕ) (rest : List (List ℕ)) → length octets ≤ most → IsBytes octets → after_octets most (octets_text octets ∷ rest) ≡ Some rest
unfolding after_octets
after_octets_only most octets rest few all =
    goes_on (word_at (octets_text octets ∷ rest)) (λ found. cond (is_some (exact.octets_in most found.0)) (some found.1) None) (octets_text octets, rest)
    (word_only (octets_text octets) rest (octets_some octets))
    ∙ ap (λ (read : Option (List ℕ)). cond (is_some read) (some rest) None) (octets_word_only most octets few all)

pub octets_word : (octets : List ℕ) → IsBytes octets → IsWord (octets_text octets)
octets_word octets all = record { line = octets_free 10 octets (omega arith) all; space = octets_free 32 octets (omega arith) all }

-- ---- codes

twelve : (order : Order) (code : Activation) → length code.address ≡ 4 → length (octets_of_activation order code) ≡ 12
twelve High code four = ap (λ n. suc (suc (suc (suc (suc (suc (suc (suc n)))))))) four
twelve Swapped code four = ap (λ n. suc (suc (suc (suc (suc (suc (suc (suc n)))))))) four

pub code_only : (order : Order) (code : Activation) → IsActivation code → code_in order (code_text order code) ≡ Some code
unfolding code_in
code_only order code is =
    let octets = octets_of_activation order code in
    goes_on (exact.code_in 12 (code_text order code)) (λ octets. some (activation_of order octets)) octets
    (code_word_only 12 octets (omega arith) (twelve order code is.size) (code_bytes order code is))
    ∙ ap some (activation_back order code is)

pub code_word : (order : Order) (code : Activation) → IsActivation code → IsWord (code_text order code)
code_word order code is = record {
  line = hex_free 10 (octets_of_activation order code) (omega arith) (code_bytes order code is);
  space = hex_free 32 (octets_of_activation order code) (omega arith) (code_bytes order code is);
}

pub code_some : (order : Order) (code : Activation) → IsActivation code → 0 < length (code_text order code)
code_some order code is =
    omega (arith, length-encode_with lower_digits (octets_of_activation order code), twelve order code is.size)

-- ---- addresses

pub four_in : (address : List ℕ) → IsAddress address → IsFour address
four_in address is = four_of address is.size (all_bytes address is.octets)

pub address_word : (address : List ℕ) → IsAddress address → IsWord (dotted address)
address_word address is =
    let all = all_bytes address is.octets in
    record { line = address_free 10 address (omega arith) all; space = address_free 32 address (omega arith) all }

pub after_address_only : (address : List ℕ) (rest : List (List ℕ)) → IsAddress address → after_address (dotted address ∷ rest) ≡ Some rest
unfolding after_address
after_address_only address rest is =
    let all = all_bytes address is.octets in
    goes_on (word_at (dotted address ∷ rest)) (λ found. exact.address_in found.0 >>= (λ address. some found.1)) (dotted address, rest)
    (word_only (dotted address) rest (address_some address is.size all))
    ∙ goes_on (exact.address_in (dotted address)) (λ address. some rest) address (address_word_only address is.size all)
