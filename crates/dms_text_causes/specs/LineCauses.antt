-- Why a line is none of its kind: it begins with no keyword of the kind, or the words after its keyword have a cause
-- (this profile). Of a kind, `no_keyword` is the cause of the first, `keyword_of` says which keyword a word is, and
-- `words_cause` what is wrong with the words after one.
use Rattle.std.specs.Prelude.{ℕ, List, ◌++◌, codes, Option, Some, None, option_map}
use Rattle.dms_text.specs.Words.{words_of}
use Rattle.dms_text.specs.Reading.{word_at}
use Rattle.dms_text_forms.specs.Form.{fault_from}
use Rattle.dms_text_forms.specs.LineText.{ended}
use Rattle.dms_text_forms.specs.declared.wanted.Wanted.{Wanted}
use Rattle.dms_text_forms.specs.declared.fault.WordFault.{WordFault}

abbrev pub cause_after : {K C : Type 0} → C → (K → List (List ℕ) → Option C) → List (List ℕ) → Option K → Option C
cause_after no_keyword words_cause words None = Some no_keyword
cause_after no_keyword words_cause words (Some keyword) = words_cause keyword words

abbrev pub cause_at : {K C : Type 0} → C → (List ℕ → Option K) → (K → List (List ℕ) → Option C)
    → Option (List ℕ × List (List ℕ)) → Option C
cause_at no_keyword keyword_of words_cause None = Some no_keyword
cause_at no_keyword keyword_of words_cause (Some found) =
    cause_after no_keyword words_cause found.1 (keyword_of found.0)

abbrev pub line_cause : {K C : Type 0} → C → (List ℕ → Option K) → (K → List (List ℕ) → Option C) → List ℕ → Option C
line_cause no_keyword keyword_of words_cause line = cause_at no_keyword keyword_of words_cause (word_at (words_of line))

-- where each keyword has one form: the first word that is not what is wanted there; the keyword is the first of all
abbrev pub form_cause : {K C : Type 0} → (WordFault → C) → (K → List Wanted) → K → List (List ℕ) → Option C
form_cause word_cause form_after keyword words = option_map word_cause (fault_from 2 (form_after keyword) words)

-- the answer to a line that is no call: why it is none
abbrev pub bad_line_text : List ℕ → List ℕ
bad_line_text why = ended (codes "bad line " ++ why)
