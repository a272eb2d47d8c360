-- What the words of a line to a central system are to be, and why a line is no call (this profile).
use Rattle.std.specs.Prelude.{ℕ, if◌then◌else◌, List, [], ◌∷◌, codes, Option, Some, None, option_map}
use Rattle.dms_text.specs.Reading.{keyword_at, is_end}
use Rattle.dms_text_forms.specs.Form.{fault_from}
use Rattle.dms_text_causes.specs.LineCauses.{line_cause}
use Rattle.dms_text_causes.specs.LineCauses as answers
use Rattle.dms_text_forms.specs.Texts.{fault_text}
use Rattle.dms_text_forms.specs.declared.vocabulary.WordName.TheVariants as names
use Rattle.dms_text_forms.specs.declared.wanted.Wanted.{Wanted}
use Rattle.dms_text_forms.specs.declared.wanted.Wanted.TheVariants as wanted
use Rattle.dms_centre_text.specs.CommandForm as commands
use Rattle.dms_centre_lines.specs.CallReading.{keyword_of}
use Rattle.dms_centre_lines.specs.declared.cause.CentreCallCause.{CentreCallCause}
use Rattle.dms_centre_lines.specs.declared.cause.CentreCallCause.TheVariants as causes
use Rattle.dms_centre_lines.specs.declared.keyword.CentreKeyword.{CentreKeyword}
use Rattle.dms_centre_lines.specs.declared.keyword.CentreKeyword.TheVariants as key

-- ---- words

-- the first word after the keyword that is not what is wanted there
abbrev pub word_cause : List Wanted → List (List ℕ) → Option CentreCallCause
word_cause form words = option_map causes.Word (fault_from 2 form words)

-- what is wrong with the words after `status`, where some are: the first is not `last`, or one stands after it
abbrev pub last_cause : Option (List (List ℕ)) → Option CentreCallCause
last_cause None = Some causes.Last
last_cause (Some rest) = option_map causes.Word (fault_from 3 [] rest)

abbrev pub status_cause : List (List ℕ) → Option CentreCallCause
status_cause words = if is_end words then None else last_cause (keyword_at (codes "last") words)

-- what is wrong with the words after a keyword
abbrev pub words_cause : CentreKeyword → List (List ℕ) → Option CentreCallCause
words_cause (key.Command asked) words = word_cause (commands.form_after asked) words
words_cause key.Datagram words = word_cause (wanted.Octets names.Datagram ∷ []) words
words_cause key.Tick words = word_cause [] words
words_cause key.Restart words = word_cause [] words
words_cause key.Status words = status_cause words
words_cause key.Save words = word_cause [] words

-- ---- lines

-- the line begins with no word of a call, or the first word that is not what is wanted there
abbrev pub call_cause : List ℕ → Option CentreCallCause
call_cause line = line_cause causes.Keyword keyword_of words_cause line

-- ---- texts

abbrev pub call_cause_text : CentreCallCause → List ℕ
call_cause_text causes.Keyword = codes "no call begins with this word"
call_cause_text causes.Last = codes "word 2: the word last, or the end of the line, is wanted"
call_cause_text (causes.Word fault) = fault_text fault

-- the answer to a line that is no call: why it is none
abbrev pub bad_line_text : CentreCallCause → List ℕ
bad_line_text cause = answers.bad_line_text (call_cause_text cause)
