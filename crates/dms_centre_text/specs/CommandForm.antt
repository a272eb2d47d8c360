-- What the words of a command's line are to be, and why a line is no command (this profile).
use Rattle.std.specs.Prelude.{ℕ, List, [], ◌∷◌, ◌++◌, codes, Option}
use Rattle.dms_text_causes.specs.LineCauses.{line_cause, form_cause}
use Rattle.dms_text_forms.specs.Texts.{fault_text}
use Rattle.dms_text_forms.specs.declared.vocabulary.WordName.TheVariants as names
use Rattle.dms_text_forms.specs.declared.wanted.Wanted.{Wanted}
use Rattle.dms_text_forms.specs.declared.wanted.Wanted.TheVariants as wanted
use Rattle.dms_centre_text.specs.CommandReading.{command_word}
use Rattle.dms_centre_text.specs.declared.cause.CommandCause.{CommandCause}
use Rattle.dms_centre_text.specs.declared.cause.CommandCause.TheVariants as causes
use Rattle.dms_centre_text.specs.declared.command_word.CommandWord.{CommandWord}
use Rattle.dms_centre_text.specs.declared.command_word.CommandWord.TheVariants as key

-- ---- words

abbrev pub row_form : List Wanted
row_form = wanted.Number 0 255 ∷ wanted.Number 0 65535 ∷ []

abbrev pub attributes_form : List Wanted
attributes_form = wanted.Number 0 255 ∷ wanted.Number 0 255 ∷ wanted.Number 0 255 ∷ []

abbrev pub terms_form : List Wanted
terms_form = wanted.Number 0 65535 ∷ wanted.Number 0 255 ∷ wanted.Address ∷ []

-- the words after a keyword
abbrev pub form_after : CommandWord → List Wanted
form_after key.Publish =
    row_form ++ wanted.Octets names.Text ∷ wanted.Octets names.Owner ∷ (attributes_form ++ terms_form)
form_after key.Blank = wanted.Number 0 65535 ∷ terms_form
form_after key.Activate = wanted.Code ∷ []

-- ---- lines

-- the line begins with no word of a command, or the first word that is not what is wanted there
abbrev pub command_cause : List ℕ → Option CommandCause
command_cause line = line_cause causes.Keyword command_word (form_cause causes.Word form_after) line

-- ---- texts

abbrev pub command_cause_text : CommandCause → List ℕ
command_cause_text causes.Keyword = codes "no command begins with this word"
command_cause_text (causes.Word fault) = fault_text fault
