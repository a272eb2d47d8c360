-- What the words of an event's line are to be, and why a line is no event (this profile).
use Rattle.std.specs.Prelude.{ℕ, List, [], ◌∷◌, codes, Option, option_map}
use Rattle.dms_text.specs.Words.{words_of}
use Rattle.dms_text_causes.specs.LineCauses.{line_cause, form_cause}
use Rattle.dms_text_forms.specs.Form.{fault_from}
use Rattle.dms_text_forms.specs.Texts.{fault_text}
use Rattle.dms_text_forms.specs.declared.vocabulary.WordName.TheVariants as names
use Rattle.dms_text_forms.specs.declared.wanted.Wanted.{Wanted}
use Rattle.dms_text_forms.specs.declared.wanted.Wanted.TheVariants as wanted
use Rattle.dms_centre_text.specs.CommandForm as commands
use Rattle.dms_replay.specs.EventReading.{keyword_of}
use Rattle.dms_replay.specs.declared.event_cause.EventCause.{EventCause}
use Rattle.dms_replay.specs.declared.event_cause.EventCause.TheVariants as causes
use Rattle.dms_replay.specs.declared.keyword.EventKeyword.{EventKeyword}
use Rattle.dms_replay.specs.declared.keyword.EventKeyword.TheVariants as key

-- the words after a keyword
abbrev pub form_after : EventKeyword → List Wanted
form_after (key.Command asked) = commands.form_after asked
form_after key.SignTick = []
form_after key.CentreTick = []
form_after key.ToSign = wanted.FourOctets ∷ []
form_after key.ToCentre = wanted.FourOctets ∷ []
form_after key.PowerLost = []
form_after key.PowerBack = wanted.FourOctets ∷ []
form_after key.CentreRestart = []
form_after key.ForgeSign = wanted.Octets names.Datagram ∷ []
form_after key.ForgeCentre = wanted.Octets names.Datagram ∷ []

-- what is wrong with the place after the keyword of a delivery
abbrev pub place_cause : List ℕ → Option EventCause
place_cause rest = option_map causes.Word (fault_from 2 (wanted.FourOctets ∷ []) (words_of rest))

-- the line begins with no word of an event, or the first word that is not what is wanted there
abbrev pub event_cause : List ℕ → Option EventCause
event_cause line = line_cause causes.Keyword keyword_of (form_cause causes.Word form_after) line

abbrev pub event_cause_text : EventCause → List ℕ
event_cause_text causes.Keyword = codes "no event begins with this word"
event_cause_text (causes.Word fault) = fault_text fault
