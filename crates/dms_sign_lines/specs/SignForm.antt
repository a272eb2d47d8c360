-- What the words of a line to a live sign are to be, and why a line is no call (this profile).
use Rattle.std.specs.Prelude.{ℕ, List, [], ◌∷◌, codes, Option}
use Rattle.dms_text_causes.specs.LineCauses.{line_cause, form_cause}
use Rattle.dms_text_causes.specs.LineCauses as answers
use Rattle.dms_text_forms.specs.Texts.{fault_text}
use Rattle.dms_text_forms.specs.declared.vocabulary.WordName.TheVariants as names
use Rattle.dms_text_forms.specs.declared.wanted.Wanted.{Wanted}
use Rattle.dms_text_forms.specs.declared.wanted.Wanted.TheVariants as wanted
use Rattle.dms_sign_lines.specs.SignReading.{keyword_of}
use Rattle.dms_sign_lines.specs.declared.cause.SignCallCause.{SignCallCause}
use Rattle.dms_sign_lines.specs.declared.cause.SignCallCause.TheVariants as causes
use Rattle.dms_sign_lines.specs.declared.keyword.SignKeyword.{SignKeyword}
use Rattle.dms_sign_lines.specs.declared.keyword.SignKeyword.TheVariants as key

-- the words after a keyword
abbrev pub form_after : SignKeyword → List Wanted
form_after key.Datagram = wanted.Octets names.Datagram ∷ []
form_after key.Tick = []
form_after key.Ticks = wanted.FourOctets ∷ []
form_after key.Heard = []
form_after key.PowerLost = []
form_after key.PowerBack = wanted.FourOctets ∷ []
form_after key.Show = []
form_after key.State = []
form_after key.Save = []

-- the line begins with no word of a call, or the first word that is not what is wanted there
abbrev pub call_cause : List ℕ → Option SignCallCause
call_cause line = line_cause causes.Keyword keyword_of (form_cause causes.Word form_after) line

abbrev pub call_cause_text : SignCallCause → List ℕ
call_cause_text causes.Keyword = codes "no call begins with this word"
call_cause_text (causes.Word fault) = fault_text fault

-- the answer to a line that is no call: why it is none
abbrev pub bad_line_text : SignCallCause → List ℕ
bad_line_text cause = answers.bad_line_text (call_cause_text cause)
