-- What is read as a word is spelled so, and in no other way.
use Rattle.std.proofs.Common.{◌≡◌, ℕ, ◌<◌, ◌≤◌, true, false, cond, List, [], ◌∷◌, ◌++◌, length, is_some, All, Option, Some, None, Ok, option_map, decimal, codes, refl, sym, ap, subst, ◌∙◌, arith}
use Rattle.std.proofs.lemmas.Bool.{eq-eqb}
use Rattle.std.proofs.lemmas.Option.{cond_some, same_Some}
use Rattle.std.proofs.lemmas.List.Elements.{All-nil, All-cons}
use Rattle.hex.specs.Hex.{IsBytes, decode_of, encode_lower, lower_digits}
use Rattle.hex.proofs.HexLemmas.{decode_of-same, decode_of-encode_lower, length-encode_with}
use Rattle.dms_wire_ber.specs.NameText.{dotted}
use Rattle.dms_text.specs.Words.{words_of}
use Rattle.dms_text.specs.Reading.{word_at, ◌>>=◌}
use Rattle.dms_text.proofs.WordLaws.{begun, goes_on, word_found, word_only}
use Rattle.dms_text_forms.specs.Fields.{SpellsOne}
use Rattle.dms_text_forms.specs.LineText.{code_text}
use Rattle.dms_text_values.specs.ValueText.{octets_text}
use Rattle.dms_text_exact.specs.ExactWords as exact
use Rattle.dms_text_exact.proofs.FrontLaws.{part_only}
use Rattle.dms_text_exact.proofs.DigitLaws.{octets_word_found, text_is, code_word_found, hex_free}
use Rattle.dms_text_exact.proofs.NumberLaws.{number_word_found}
use Rattle.dms_text_exact.proofs.AddressLaws.{address_word_found}
use Rattle.dms_codes.specs.declared.codes.Order.{Order}
use Rattle.dms_codes.specs.declared.codes.Activation.{Activation}
use Rattle.dms_codes.specs.Codes.{octets_of_activation, activation_of, IsActivation}
use Rattle.dms_centre_jobs.specs.Commands.{Activate, IsAddress}
use Rattle.dms_centre_text.specs.CommandFields.{SpellsCode}
use Rattle.dms_centre_text.specs.CommandReading.{code_from, code_at, last_code_at, command_word, command_of}
use Rattle.dms_centre_text.proofs.CommandLaws.{command_found}
use Rattle.dms_centre_restored.specs.WordReading.{after_number, after_octets, after_address, code_in}

-- ---- numbers

pub record NumberFirst (low high : ℕ) (words rest : List (List ℕ)) : Type 0 where
  pub number : ℕ
  pub least : low ≤ number
  pub most : number ≤ high
  pub words_are : words ≡ decimal number ∷ rest

pub after_number_found : (low high : ℕ) (words rest : List (List ℕ)) → after_number low high words ≡ Some rest → NumberFirst low high words rest
unfolding after_number
after_number_found low high words rest e =
    let word = begun (word_at words) (λ found. exact.number_in low high found.0 >>= (λ number. Some found.1)) rest e in
    let number = begun (exact.number_in low high word.0.0) (λ number. Some word.0.1) rest word.2 in
    let is = number_word_found low high number.0 word.0.0 number.1 in
    let first = word_found words word.0 word.1 in
    record {
      number = number.0;
      least = is.0;
      most = is.1;
      words_are = first.0 ∙ ap (λ word_read. word_read ∷ word.0.1) is.2 ∙ ap (λ rest. decimal number.0 ∷ rest) (same_Some word.0.1 rest number.2);
    }

-- ---- octets

pub record OctetsFirst (most : ℕ) (words rest : List (List ℕ)) : Type 0 where
  pub octets : List ℕ
  pub few : length octets ≤ most
  pub bytes : IsBytes octets
  pub words_are : words ≡ octets_text octets ∷ rest

pub after_octets_found : (most : ℕ) (words rest : List (List ℕ)) → after_octets most words ≡ Some rest → OctetsFirst most words rest
unfolding after_octets
after_octets_found most words rest e =
    let word = begun (word_at words) (λ found. cond (is_some (exact.octets_in most found.0)) (Some found.1) None) rest e in
    let first = word_found words word.0 word.1 in
    let tests = cond_some (is_some (exact.octets_in most word.0.0)) word.0.1 rest word.2 in
    let read = of_some (exact.octets_in most word.0.0) tests.0 in
    let is = octets_word_found most word.0.0 read.0 read.1 in
    record {
      octets = read.0;
      few = is.0;
      bytes = is.1;
      words_are = first.0 ∙ ap (λ word_read. word_read ∷ word.0.1) is.2 ∙ ap (λ rest. octets_text read.0 ∷ rest) tests.1;
    }
  where
    of_some : (found : Option (List ℕ)) → is_some found ≡ true → (octets : List ℕ) × (found ≡ Some octets)
    of_some None e = absurd cc
    of_some (Some octets) e = (octets, refl)

-- ---- addresses

pub record AddressFirst (words rest : List (List ℕ)) : Type 0 where
  pub address : List ℕ
  pub is : IsAddress address
  pub words_are : words ≡ dotted address ∷ rest

pub all_four : (a b c d : ℕ) → a < 256 → b < 256 → c < 256 → d < 256 → All (λ octet. octet < 256) (a ∷ b ∷ c ∷ d ∷ [])
all_four a b c d in_a in_b in_c in_d =
    let Small : ℕ → Type 0 = λ octet. octet < 256 in
    All-cons Small a (b ∷ c ∷ d ∷ []) in_a (All-cons Small b (c ∷ d ∷ []) in_b (All-cons Small c (d ∷ []) in_c (All-cons Small d [] in_d (All-nil Small))))

is_address : (address : List ℕ) → length address ≡ 4 → IsBytes address → IsAddress address
is_address [] four all = absurd (omega (arith, four))
is_address (a ∷ []) four all = absurd (omega (arith, four))
is_address (a ∷ b ∷ []) four all = absurd (omega (arith, four))
is_address (a ∷ b ∷ c ∷ []) four all = absurd (omega (arith, four))
is_address (a ∷ b ∷ c ∷ d ∷ []) four all = record { size = refl; octets = all_four a b c d (all 0) (all 1) (all 2) (all 3) }
is_address (a ∷ b ∷ c ∷ d ∷ e ∷ more) four all = absurd (omega (arith, four))

pub after_address_found : (words rest : List (List ℕ)) → after_address words ≡ Some rest → AddressFirst words rest
unfolding after_address
after_address_found words rest e =
    let word = begun (word_at words) (λ found. exact.address_in found.0 >>= (λ address. Some found.1)) rest e in
    let read = begun (exact.address_in word.0.0) (λ address. Some word.0.1) rest word.2 in
    let first = word_found words word.0 word.1 in
    let is = address_word_found word.0.0 read.0 read.1 in
    record {
      address = read.0;
      is = is_address read.0 is.size is.bytes;
      words_are = first.0 ∙ ap (λ word_read. word_read ∷ word.0.1) is.word_is ∙ ap (λ rest. dotted read.0 ∷ rest) (same_Some word.0.1 rest read.2);
    }

-- ---- codes

code_of_line : (order : Order) (word : List ℕ) → command_of order (codes "activate " ++ word) ≡ (last_code_at order (words_of word) >>= (λ code. Some (Activate code)))
unfolding command_of command_word word_at
code_of_line order word = mapped (last_code_at order (words_of word))
  where
    mapped : (found : Option Activation) → option_map Activate found ≡ (found >>= (λ code. Some (Activate code)))
    mapped None = refl
    mapped (Some code) = refl

last_code : (order : Order) (word : List ℕ) (code : Activation) → 0 < length word → code_from order (decode_of word) ≡ Some code → last_code_at order (word ∷ []) ≡ Some code
unfolding last_code_at code_at
last_code order word code some e =
    let found : code_at order (word ∷ []) ≡ Some (code, []) = goes_on _ _ _ (word_only word [] some) ∙ goes_on _ _ _ e in
    goes_on _ _ _ found

spells_code : (order : Order) (octets : List ℕ) (code : Activation) → length octets ≡ 12 → IsBytes octets → activation_of order octets ≡ code
    → SpellsOne (codes "activate") (SpellsCode order code) (codes "activate" ∷ encode_lower octets ∷ [])
spells_code order octets code twelve bytes is =
    let word = encode_lower octets in
    let one : words_of word ≡ word ∷ [] = part_only 32 word (hex_free 32 octets (omega arith) bytes) in
    let taken : code_from order (decode_of word) ≡ Some code =
    ap (λ read. code_from order read) (decode_of-encode_lower octets bytes)
    ∙ ap (λ b. cond b (Some (activation_of order octets)) None) (eq-eqb (length octets) 12 twelve) ∙ ap Some is in
    let read : last_code_at order (words_of word) ≡ Some code = ap (λ words. last_code_at order words) one ∙ last_code order word code (omega (arith, length-encode_with lower_digits octets, twelve)) taken in
    subst (λ words. SpellsOne (codes "activate") (SpellsCode order code) (codes "activate" ∷ words)) one
    (command_found order (codes "activate " ++ word) (Activate code) (code_of_line order word ∙ ap (λ found. found >>= (λ code. Some (Activate code))) read))

pub code_found : (order : Order) (word : List ℕ) (code : Activation) → code_in order word ≡ Some code → IsActivation code × (word ≡ code_text order code)
unfolding code_in
code_found order word code e =
    let read = begun (exact.code_in 12 word) (λ octets. Some (activation_of order octets)) code e in
    let written = code_word_found 12 word read.0 (omega arith) read.1 in
    let spelled = spells_code order read.0 code written.0 written.1 (same_Some (activation_of order read.0) code read.2) in
    let same : encode_lower read.0 ≡ spelled.word = ap (λ (words : List (List ℕ)). head words) spelled.words_are in
    let is = subst (λ word. SpellsCode order code word) (sym same) spelled.spelled in
    let octets : read.0 ≡ octets_of_activation order code =
    decode_of-same (encode_lower read.0) read.0 (octets_of_activation order code) (decode_of-encode_lower read.0 written.1) is.digits in
    (is.is_code, written.2 ∙ text_is read.0 (omega (arith, written.0)) ∙ ap (λ octets. encode_lower octets) octets)
  where
    head : List (List ℕ) → List ℕ
    head [] = []
    head (word ∷ []) = word
    head (word ∷ other ∷ words) = other
