-- A line that is no command, in numbers, as it is given to C (this profile).
use Rattle.std.specs.Prelude.{List, ◌∷◌}
use Rattle.dms_text_forms.specs.declared.vocabulary.Keyword.{Keyword}
use Rattle.dms_text_forms.specs.declared.vocabulary.Keyword.TheVariants as keywords
use Rattle.dms_text_forms.specs.declared.wanted.Wanted.{Wanted}
use Rattle.dms_text_forms.specs.declared.wanted.Wanted.TheVariants as wanted
use Rattle.dms_centre_text.specs.CommandForm.{form_after}
use Rattle.dms_centre_text.specs.declared.cause.CommandCause.{CommandCause}
use Rattle.dms_centre_text.specs.declared.cause.CommandCause.TheVariants as causes
use Rattle.dms_centre_text.specs.declared.command_word.CommandWord.{CommandWord}
use Rattle.dms_centre_text.specs.declared.command_word.CommandWord.TheVariants as key
use Rattle.wisangub_c_causes.specs.declared.cause.CauseNumbers.{CauseNumbers}
use Rattle.wisangub_c_causes.specs.WordCauses.{of_word}
use Rattle.wisangub_c_causes.specs.LineCauses.{of_first_word}

abbrev pub keyword_of : CommandWord → Keyword
keyword_of key.Publish = keywords.Publish
keyword_of key.Blank = keywords.Blank
keyword_of key.Activate = keywords.Activate

-- the words of the line, its keyword too
abbrev pub whole_form : CommandWord → List Wanted
whole_form word = wanted.Keyword (keyword_of word) ∷ form_after word

-- why a line is no command: it is the first line
abbrev pub command_cause_numbers : CommandCause → CauseNumbers
command_cause_numbers causes.Keyword = of_first_word 1
command_cause_numbers (causes.Word fault) = of_word 1 fault
