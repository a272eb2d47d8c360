-- A line is read just where it has no cause, of whichever kind it is.
use Rattle.std.proofs.Common.{◌≡◌, ℕ, not, List, [], ◌∷◌, Option, Some, None, is_some, refl, sym, ap, ◌∙◌, arith}
use Rattle.std.specs.Prelude.{IsSome, option_map}
use Rattle.dms_text.specs.Words.{words_of}
use Rattle.dms_text.specs.Reading.{word_at, decimal_at, ◌>>=◌}
use Rattle.dms_codes.proofs.Options.{is_some_mapped}
use Rattle.dms_text_forms.specs.Form.{fault_from}
use Rattle.dms_text_forms.specs.FieldsReading.{if_last, last_number_at, octets_at, last_octets_at}
use Rattle.dms_text_forms.specs.declared.fault.WordFault.{WordFault}
use Rattle.dms_text_forms.specs.declared.vocabulary.WordName.{WordName}
use Rattle.dms_text_forms.specs.declared.wanted.Wanted.{Wanted}
use Rattle.dms_text_forms.specs.declared.wanted.Wanted.TheVariants as wants
use Rattle.dms_text_causes.specs.LineCauses.{cause_after, cause_at, line_cause, form_cause}

-- ---- words to the end of a line

pub end_wanted : {A : Type 0} (value : A) (place : ℕ) (words : List (List ℕ)) → is_some (if_last value words) ≡ not (is_some (fault_from place [] words))
unfolding fault_from
end_wanted value place [] = refl
end_wanted value place (word ∷ words) = refl

pub octets_wanted : (name : WordName) (place : ℕ) (words : List (List ℕ)) → is_some (last_octets_at words) ≡ not (is_some (fault_from place (wants.Octets name ∷ []) words))
unfolding fault_from last_octets_at octets_at word_at
octets_wanted name place [] = refl
octets_wanted name place ([] ∷ words) = refl
octets_wanted name place ((octet ∷ octets) ∷ words) = grind (arith, end_wanted)

pub number_wanted : (place : ℕ) (words : List (List ℕ)) → is_some (last_number_at words) ≡ not (is_some (fault_from place (wants.FourOctets ∷ []) words))
unfolding fault_from last_number_at decimal_at word_at
number_wanted place [] = refl
number_wanted place ([] ∷ words) = refl
number_wanted place ((octet ∷ octets) ∷ words) = grind (arith, end_wanted)

-- a cause is made of each fault
pub by_fault : {C : Type 0} (word_cause : WordFault → C) (fault : Option WordFault) → not (is_some fault) ≡ not (is_some (option_map word_cause fault))
by_fault word_cause fault = ap not (sym (is_some_mapped word_cause fault))

-- ---- lines

keyword_wanted : {K A C : Type 0} (no_keyword : C) (read_after : K → List (List ℕ) → Option A) (words_cause : K → List (List ℕ) → Option C)
    → ((keyword : K) (words : List (List ℕ)) → is_some (read_after keyword words) ≡ not (is_some (words_cause keyword words)))
    → (words : List (List ℕ)) (keyword : Option K)
    → is_some (keyword >>= (λ keyword. read_after keyword words)) ≡ not (is_some (cause_after no_keyword words_cause words keyword))
keyword_wanted no_keyword read_after words_cause each words None = refl
keyword_wanted no_keyword read_after words_cause each words (Some keyword) = each keyword words

first_wanted : {K A C : Type 0} (no_keyword : C) (keyword_of : List ℕ → Option K) (read_after : K → List (List ℕ) → Option A) (words_cause : K → List (List ℕ) → Option C)
    → ((keyword : K) (words : List (List ℕ)) → is_some (read_after keyword words) ≡ not (is_some (words_cause keyword words)))
    → (found : Option (List ℕ × List (List ℕ)))
    → is_some (found >>= (λ found. keyword_of found.0 >>= (λ keyword. read_after keyword found.1))) ≡ not (is_some (cause_at no_keyword keyword_of words_cause found))
first_wanted no_keyword keyword_of read_after words_cause each None = refl
first_wanted no_keyword keyword_of read_after words_cause each (Some found) =
    keyword_wanted no_keyword read_after words_cause each found.1 (keyword_of found.0)

pub line_wanted : {K A C : Type 0} (no_keyword : C) (keyword_of : List ℕ → Option K) (read_after : K → List (List ℕ) → Option A) (words_cause : K → List (List ℕ) → Option C)
    → ((keyword : K) (words : List (List ℕ)) → is_some (read_after keyword words) ≡ not (is_some (words_cause keyword words)))
    → (line : List ℕ)
    → is_some (word_at (words_of line) >>= (λ found. keyword_of found.0 >>= (λ keyword. read_after keyword found.1)))
    ≡ not (is_some (line_cause no_keyword keyword_of words_cause line))
line_wanted no_keyword keyword_of read_after words_cause each line = first_wanted no_keyword keyword_of read_after words_cause each (word_at (words_of line))

-- the same, where each keyword has one form
pub form_line_wanted : {K A C : Type 0} (no_keyword : C) (word_cause : WordFault → C) (keyword_of : List ℕ → Option K) (read_after : K → List (List ℕ) → Option A) (form_after : K → List Wanted)
    → ((keyword : K) (words : List (List ℕ)) → is_some (read_after keyword words) ≡ not (is_some (fault_from 2 (form_after keyword) words)))
    → (line : List ℕ)
    → is_some (word_at (words_of line) >>= (λ found. keyword_of found.0 >>= (λ keyword. read_after keyword found.1)))
    ≡ not (is_some (line_cause no_keyword keyword_of (form_cause word_cause form_after) line))
form_line_wanted no_keyword word_cause keyword_of read_after form_after each line =
    line_wanted no_keyword keyword_of read_after (form_cause word_cause form_after)
    (λ keyword words. each keyword words ∙ by_fault word_cause (fault_from 2 (form_after keyword) words)) line

-- where nothing is read there is a cause
pub some_cause : {A C : Type 0} (found : Option A) (cause : Option C) → is_some found ≡ not (is_some cause) → found ≡ None → IsSome cause
some_cause found cause e is = grind (arith, e, is)

-- where something is, there is none
pub no_cause : {A C : Type 0} (value : A) (found : Option A) (cause : Option C) → is_some found ≡ not (is_some cause) → found ≡ Some value → cause ≡ None
no_cause value found cause e is = grind (arith, e, is)

-- and where there is none, something is read
pub read_without_cause : {A C : Type 0} (found : Option A) (cause : Option C) → is_some found ≡ not (is_some cause) → cause ≡ None → (value : A) × (found ≡ Some value)
read_without_cause None None e none = absurd (cc)
read_without_cause None (Some cause) e none = absurd (cc)
read_without_cause (Some value) cause e none = (value, refl)
