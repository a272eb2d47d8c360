-- Why a line is no call of an agent (this profile).
use Rattle.std.specs.Prelude.{ℕ, ◌+◌, List, [], ◌∷◌, codes, Option, Some, None, option_map}
use Rattle.dms_wire.specs.Message.{ObjectValue, null, octet_string, object_identifier}
use Rattle.dms_device.specs.declared.access.ManagerAccess.{ManagerAccess}
use Rattle.dms_text.specs.Reading.{word_at}
use Rattle.dms_text_forms.specs.Form.{fault_from}
use Rattle.dms_text_causes.specs.LineCauses.{line_cause}
use Rattle.dms_text_causes.specs.LineCauses as answers
use Rattle.dms_text_forms.specs.Texts.{fault_text}
use Rattle.dms_text_forms.specs.declared.vocabulary.WordName.TheVariants as names
use Rattle.dms_text_forms.specs.declared.wanted.Wanted.TheVariants as wanted
use Rattle.dms_text_values.specs.NameReading.{name_of}
use Rattle.dms_text_values.specs.ValueReading.{value_at}
use Rattle.dms_agent_lines.specs.AgentReading.{access_at, keyword_of}
use Rattle.dms_agent_lines.specs.declared.cause.AgentCallCause.{AgentCallCause}
use Rattle.dms_agent_lines.specs.declared.cause.AgentCallCause.TheVariants as causes
use Rattle.dms_agent_lines.specs.declared.keywords.AgentKeyword.{AgentKeyword}
use Rattle.dms_agent_lines.specs.declared.keywords.AgentKeyword.TheVariants as key

-- ---- NAME VALUE ACCESS: the first of these that is not there

abbrev pub access_cause : Option ManagerAccess → Option AgentCallCause
access_cause None = Some causes.Access
access_cause (Some access) = None

abbrev pub value_cause : Option (ObjectValue × List (List ℕ)) → Option AgentCallCause
value_cause None = Some causes.Value
value_cause (Some value) = access_cause (access_at value.1)

abbrev pub named_cause : List (List ℕ) → Option (List ℕ) → Option AgentCallCause
named_cause rest None = Some causes.Name
named_cause rest (Some name) = value_cause (value_at rest)

abbrev pub object_cause : Option (List ℕ × List (List ℕ)) → Option AgentCallCause
object_cause None = Some causes.Name
object_cause (Some found) = named_cause found.1 (name_of found.0)

-- ---- NAME, and nothing after it

abbrev pub last_name_cause : List (List ℕ) → Option (List ℕ) → Option AgentCallCause
last_name_cause rest None = Some causes.Name
last_name_cause rest (Some name) = option_map causes.Word (fault_from 3 [] rest)

abbrev pub withdraw_cause : Option (List ℕ × List (List ℕ)) → Option AgentCallCause
withdraw_cause None = Some causes.Name
withdraw_cause (Some found) = last_name_cause found.1 (name_of found.0)

-- ---- NAME VALUE, and nothing after them

-- how many words a value has
abbrev pub value_words : ObjectValue → ℕ
value_words null = 1
value_words (octet_string octets) = 3
value_words (object_identifier numbers) = 3
value_words _ = 2

-- the value begins with word 3
abbrev pub last_value_cause : Option (ObjectValue × List (List ℕ)) → Option AgentCallCause
last_value_cause None = Some causes.Value
last_value_cause (Some value) = option_map causes.Word (fault_from (3 + value_words value.0) [] value.1)

abbrev pub last_named_cause : List (List ℕ) → Option (List ℕ) → Option AgentCallCause
last_named_cause rest None = Some causes.Name
last_named_cause rest (Some name) = last_value_cause (value_at rest)

abbrev pub binding_cause : Option (List ℕ × List (List ℕ)) → Option AgentCallCause
binding_cause None = Some causes.Name
binding_cause (Some found) = last_named_cause found.1 (name_of found.0)

-- ---- lines

-- what is wrong with the words after a keyword
abbrev pub words_cause : AgentKeyword → List (List ℕ) → Option AgentCallCause
words_cause key.Datagram words = option_map causes.Word (fault_from 2 (wanted.Octets names.Datagram ∷ []) words)
words_cause key.Object words = object_cause (word_at words)
words_cause key.NoObject words = withdraw_cause (word_at words)
words_cause key.Fonts words = option_map causes.Word (fault_from 2 [] words)
words_cause key.Objects words = option_map causes.Word (fault_from 2 [] words)
words_cause key.Set words = binding_cause (word_at words)
words_cause key.Save words = option_map causes.Word (fault_from 2 [] words)

-- the line begins with no word of a call, or what is not as it is wanted
abbrev pub call_cause : List ℕ → Option AgentCallCause
call_cause line = line_cause causes.Keyword keyword_of words_cause line

-- ---- texts

abbrev pub call_cause_text : AgentCallCause → List ℕ
call_cause_text causes.Keyword = codes "no call begins with this word"
call_cause_text causes.Name = codes "word 2: the name of an object is wanted, as 1.3.6.1"
call_cause_text causes.Value = codes "word 3: a value is wanted, as INTEGER 7"
call_cause_text causes.Access = codes "after the value an access is wanted, as number 0 7, or the end of the line"
call_cause_text (causes.Word fault) = fault_text fault

-- the answer to a line that is no call: why it is none
abbrev pub bad_line_text : AgentCallCause → List ℕ
bad_line_text cause = answers.bad_line_text (call_cause_text cause)
