-- A line that begins with the word of a command has the fault of the words after it.
use Rattle.std.proofs.Common.{◌≡◌, ℕ, ◌+◌, true, List, [], ◌∷◌, Some, sym, ap, ◌∙◌, arith}
use Rattle.std.specs.Prelude.{option_map}
use Rattle.dms_text.specs.Words.{words_of}
use Rattle.dms_text.specs.Reading.{same_octets, word_at}
use Rattle.dms_text_forms.specs.Vocabulary.{keyword_text}
use Rattle.dms_text_forms.specs.Form.{is_wanted, fault_from, word_fault}
use Rattle.dms_text_forms.specs.declared.wanted.Wanted.{Wanted}
use Rattle.dms_text_forms.specs.declared.wanted.Wanted.TheVariants as wanted
use Rattle.dms_text_causes.specs.LineCauses.{cause_after, cause_at, form_cause}
use Rattle.dms_centre_text.specs.CommandForm.{form_after, command_cause}
use Rattle.dms_centre_text.specs.CommandReading.{command_word}
use Rattle.dms_centre_text.specs.declared.command_word.CommandWord.{CommandWord}
use Rattle.dms_centre_text.specs.declared.cause.CommandCause.TheVariants as causes
use Rattle.wisangub_c_causes.specs.CommandCauses.{keyword_of, whole_form}

-- the word is that of its keyword
is_its_word : (word : List ℕ) (keyword : CommandWord) → command_word word ≡ Some keyword → same_octets word (keyword_text (keyword_of keyword)) ≡ true
unfolding command_word
is_its_word word keyword e = grind arith

-- after a word that is wanted the others have the fault
after_a_word : (place : ℕ) (first : Wanted) (more : List Wanted) (words : List (List ℕ)) (found : List ℕ × List (List ℕ)) → word_at words ≡ Some found
    → is_wanted first found.0 ≡ true → fault_from place (first ∷ more) words ≡ fault_from (place + 1) more found.1
unfolding fault_from word_at
after_a_word place first more [] found e is = absurd (cc)
after_a_word place first more ([] ∷ words) found e is = absurd (cc)
after_a_word place first more ((octet ∷ octets) ∷ words) found e is = grind arith

-- the cause of a line that begins so
pub whole_line : (line : List ℕ) (found : List ℕ × List (List ℕ)) (keyword : CommandWord) → word_at (words_of line) ≡ Some found → command_word found.0 ≡ Some keyword
    → option_map causes.Word (word_fault (whole_form keyword) (words_of line)) ≡ command_cause line
whole_line line found keyword first is =
    ap (option_map causes.Word) (after_a_word 1 (wanted.Keyword (keyword_of keyword)) (form_after keyword) (words_of line) found first (is_its_word found.0 keyword is))
    ∙ sym (ap (cause_at causes.Keyword command_word (form_cause causes.Word form_after)) first ∙ ap (cause_after causes.Keyword (form_cause causes.Word form_after) found.1) is)
