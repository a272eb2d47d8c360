-- A line is a call just where it has no cause.
use Rattle.std.proofs.Common.{◌≡◌, ℕ, ◌+◌, not, List, [], Option, Some, None, is_some, refl, ◌∙◌}
use Rattle.std.specs.Prelude.{IsSome}
use Rattle.dms_wire.specs.Message.{ObjectValue, VarBind}
use Rattle.dms_device.specs.declared.access.ManagerAccess.{ManagerAccess}
use Rattle.dms_text.specs.Reading.{word_at, ◌>>=◌}
use Rattle.dms_codes.proofs.Options.{is_some_mapped}
use Rattle.dms_text_forms.specs.Form.{fault_from}
use Rattle.dms_text_forms.specs.FieldsReading.{if_last, last_octets_at}
use Rattle.dms_text_forms.specs.declared.vocabulary.WordName.TheVariants as names
use Rattle.dms_text_causes.proofs.CauseLaws.{end_wanted, octets_wanted, by_fault, line_wanted, some_cause, no_cause}
use Rattle.dms_text_values.specs.NameReading.{name_of}
use Rattle.dms_text_values.specs.ValueReading.{value_at}
use Rattle.dms_agent_lines.specs.AgentCall.{AgentCall, receive, publish, withdraw, show_fonts, tell, put_back, save}
use Rattle.dms_agent_lines.specs.AgentLine.{SpellsAgentCall, SpellsNoAgentCall}
use Rattle.dms_agent_lines.specs.AgentReading.{access_at, object_at, withdraw_at, binding_at, keyword_of, call_after, call_of}
use Rattle.dms_agent_lines.specs.AgentForm.{access_cause, value_cause, named_cause, object_cause, last_name_cause, withdraw_cause, value_words, last_value_cause, last_named_cause, binding_cause, words_cause, call_cause}
use Rattle.dms_agent_lines.specs.declared.cause.AgentCallCause.TheVariants as causes
use Rattle.dms_agent_lines.specs.declared.keywords.AgentKeyword.{AgentKeyword}
use Rattle.dms_agent_lines.specs.declared.keywords.AgentKeyword.TheVariants as key
use Rattle.dms_agent_lines.proofs.CallLaws.{call_only, none_read}

-- ---- objects and names

object_wanted : (words : List (List ℕ)) → is_some (object_at words) ≡ not (is_some (object_cause (word_at words)))
unfolding object_at
object_wanted words = by_word _ (word_at words)
  where
    by_access : {B : Type 0} (access : Option ManagerAccess) (make : ManagerAccess → B) → is_some (access >>= (λ access. Some (make access))) ≡ not (is_some (access_cause access))
    by_access None make = refl
    by_access (Some access) make = refl

    by_value : {B : Type 0} (value : Option (ObjectValue × List (List ℕ))) (make : ObjectValue → ManagerAccess → B)
        → is_some (value >>= (λ value. access_at value.1 >>= (λ access. Some (make value.0 access)))) ≡ not (is_some (value_cause value))
    by_value None make = refl
    by_value (Some value) make = by_access (access_at value.1) (make value.0)

    by_name : {B : Type 0} (rest : List (List ℕ)) (name : Option (List ℕ)) (make : List ℕ → ObjectValue → ManagerAccess → B)
        → is_some (name >>= (λ name. value_at rest >>= (λ value. access_at value.1 >>= (λ access. Some (make name value.0 access))))) ≡ not (is_some (named_cause rest name))
    by_name rest None make = refl
    by_name rest (Some name) make = by_value (value_at rest) (make name)

    by_word : {B : Type 0} (make : List ℕ → ObjectValue → ManagerAccess → B) (found : Option (List ℕ × List (List ℕ)))
        → is_some (found >>= (λ found. name_of found.0 >>= (λ name. value_at found.1 >>= (λ value. access_at value.1 >>= (λ access. Some (make name value.0 access))))))
        ≡ not (is_some (object_cause found))
    by_word make None = refl
    by_word make (Some found) = by_name found.1 (name_of found.0) make

withdraw_wanted : (words : List (List ℕ)) → is_some (withdraw_at words) ≡ not (is_some (withdraw_cause (word_at words)))
unfolding withdraw_at
withdraw_wanted words = by_word (word_at words)
  where
    by_name : (rest : List (List ℕ)) (name : Option (List ℕ)) → is_some (name >>= (λ name. if_last name rest)) ≡ not (is_some (last_name_cause rest name))
    by_name rest None = refl
    by_name rest (Some name) = end_wanted name 3 rest ∙ by_fault causes.Word (fault_from 3 [] rest)

    by_word : (found : Option (List ℕ × List (List ℕ)))
        → is_some (found >>= (λ found. name_of found.0 >>= (λ name. if_last name found.1))) ≡ not (is_some (withdraw_cause found))
    by_word None = refl
    by_word (Some found) = by_name found.1 (name_of found.0)

abbrev bound : List ℕ → ObjectValue → VarBind
bound name value = record { name = name; value = value }

binding_wanted : (words : List (List ℕ)) → is_some (binding_at words) ≡ not (is_some (binding_cause (word_at words)))
unfolding binding_at
binding_wanted words = by_word (word_at words)
  where
    by_value : (name : List ℕ) (value : Option (ObjectValue × List (List ℕ)))
        → is_some (value >>= (λ value. if_last (bound name value.0) value.1)) ≡ not (is_some (last_value_cause value))
    by_value name None = refl
    by_value name (Some value) =
        end_wanted (bound name value.0) (3 + value_words value.0) value.1 ∙ by_fault causes.Word (fault_from (3 + value_words value.0) [] value.1)

    by_name : (rest : List (List ℕ)) (name : Option (List ℕ))
        → is_some (name >>= (λ name. value_at rest >>= (λ value. if_last (bound name value.0) value.1))) ≡ not (is_some (last_named_cause rest name))
    by_name rest None = refl
    by_name rest (Some name) = by_value name (value_at rest)

    by_word : (found : Option (List ℕ × List (List ℕ)))
        → is_some (found >>= (λ found. name_of found.0 >>= (λ name. value_at found.1 >>= (λ value. if_last (bound name value.0) value.1)))) ≡ not (is_some (binding_cause found))
    by_word None = refl
    by_word (Some found) = by_name found.1 (name_of found.0)

-- ---- lines

after_wanted : (keyword : AgentKeyword) (words : List (List ℕ)) → is_some (call_after keyword words) ≡ not (is_some (words_cause keyword words))
after_wanted key.Datagram words = is_some_mapped receive (last_octets_at words) ∙ octets_wanted names.Datagram 2 words ∙ by_fault causes.Word _
after_wanted key.Object words = is_some_mapped publish (object_at words) ∙ object_wanted words
after_wanted key.NoObject words = is_some_mapped withdraw (withdraw_at words) ∙ withdraw_wanted words
after_wanted key.Fonts words = end_wanted show_fonts 2 words ∙ by_fault causes.Word _
after_wanted key.Objects words = end_wanted tell 2 words ∙ by_fault causes.Word _
after_wanted key.Set words = is_some_mapped put_back (binding_at words) ∙ binding_wanted words
after_wanted key.Save words = end_wanted save 2 words ∙ by_fault causes.Word _

call_wanted : (line : List ℕ) → is_some (call_of line) ≡ not (is_some (call_cause line))
unfolding call_of
call_wanted line = line_wanted causes.Keyword keyword_of call_after words_cause after_wanted line

-- a line that spells no call has a cause
pub cause_of_no_call : (line : List ℕ) → SpellsNoAgentCall line → IsSome (call_cause line)
cause_of_no_call line none = some_cause (call_of line) (call_cause line) (call_wanted line) (none_read line none)

-- one that spells a call has none
pub no_cause_of_call : (line : List ℕ) (call : AgentCall) → SpellsAgentCall call line → call_cause line ≡ None
no_cause_of_call line call spelled = no_cause call (call_of line) (call_cause line) (call_wanted line) (call_only line call spelled)
