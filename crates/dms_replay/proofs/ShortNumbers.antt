-- A number of few digits that fills what is left of a line is its only word, and a place.
use Rattle.std.proofs.Common.{◌≡◌, ℕ, ◌<◌, ◌^◌, ◌==◌, true, false, List, [], ◌∷◌, length, Some, None, option_map, refl, sym, ap, ◌∙◌, arith, inl, inr}
use Rattle.std.specs.Char.{digit_value}
use Rattle.std.specs.List.{slice_split, onto_first}
use Rattle.std.specs.Str.Parse.{AllDigits}
use Rattle.std.proofs.lemmas.Bool.{cases_Bool, eqb-true}
use Rattle.std.proofs.lemmas.List.Splits.{slice_split-cons_no}
use Rattle.dms_text.specs.Words.{words_of}
use Rattle.dms_text.specs.Reading.{number_of}
use Rattle.dms_text.specs.Numbers.{SpellsNumber}
use Rattle.dms_text.proofs.NumberLaws.{number_found, number_only}
use Rattle.dms_text.proofs.WordLaws.{word_only}
use Rattle.dms_text_forms.specs.Fields.{SpellsFourOctets}
use Rattle.dms_text_forms.specs.Form.{fault_from, is_number}
use Rattle.dms_text_forms.specs.FieldsReading.{last_number_at}
use Rattle.dms_text_forms.specs.declared.wanted.Wanted.TheVariants as wants
use Rattle.dms_text_forms.proofs.FieldLaws.{last_number_only}
use Rattle.dms_replay.specs.EventForm.{place_cause}
use Rattle.dms_replay.specs.declared.event_cause.EventCause.TheVariants as causes

-- a digit is no space
digit_alone : (octet : ℕ) → digit_value octet < 10 → (octet == 32) ≡ false
digit_alone octet below = elim (cases_Bool (octet == 32)) [
  | inl space ↦ absurd (let same : digit_value octet ≡ digit_value 32 = ap digit_value (eqb-true octet 32 space) in omega (arith, same))
  | inr other ↦ other
]

-- digits are one word
digits_alone : (word : List ℕ) → AllDigits 10 word → slice_split (λ (octet : ℕ). octet == 32) word ≡ word ∷ []
digits_alone [] all = refl
digits_alone (octet ∷ octets) all =
    slice_split-cons_no (λ (octet : ℕ). octet == 32) octet octets (digit_alone octet all.0) ∙ ap (onto_first octet) (digits_alone octets all.1)

four_octets : (word : List ℕ) (number : ℕ) → number < 16 ^ 7 → SpellsNumber 10 7 number word → SpellsFourOctets number word
four_octets word number small spelled = record {
  spelled = record { numeral = spelled.numeral; few = omega (arith, spelled.few); value = spelled.value };
  small = omega (arith, small);
}

pub short_number_read : (word : List ℕ) (number : ℕ) → number < 16 ^ 7 → Some number ≡ number_of 10 7 word → Some number ≡ last_number_at (words_of word)
short_number_read word number small e =
    let spelled = number_found 10 7 number word (sym e) in
    sym (ap last_number_at (digits_alone word spelled.numeral.1) ∙ last_number_only number word (four_octets word number small spelled))

wanted_alone : (word : List ℕ) → 0 < length word → is_number 10 0 4294967295 word ≡ true → fault_from 2 (wants.FourOctets ∷ []) (word ∷ []) ≡ None
unfolding fault_from
wanted_alone word some is = grind (arith, word_only, some, is)

pub short_number_cause : (word : List ℕ) (number : ℕ) → number < 16 ^ 7 → Some number ≡ number_of 10 7 word → None ≡ place_cause word
short_number_cause word number small e =
    let spelled = number_found 10 7 number word (sym e) in
    let four = four_octets word number small spelled in
    let read : number_of 10 10 word ≡ Some number = number_only 10 10 number word four.spelled in
    let is : is_number 10 0 4294967295 word ≡ true = grind (arith, read, four.small) in
    sym (ap (option_map causes.Word) (ap (fault_from 2 (wants.FourOctets ∷ [])) (digits_alone word spelled.numeral.1) ∙ wanted_alone word spelled.numeral.0 is))

pub ruleset short_numbers = (short_number_read, short_number_cause)
