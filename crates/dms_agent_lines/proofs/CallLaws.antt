-- The call of a line is the one that the line spells, and the answer is the one of the call.
use Rattle.std.proofs.Common.{◌≡◌, ℕ, ◌<◌, List, [], ◌∷◌, ◌++◌, length, Option, Some, None, option_map, refl, sym, ap, subst, ◌∙◌, append-nil, arith}
use Rattle.std.specs.Prelude.{codes}
use Rattle.std.proofs.lemmas.Option.{same_Some, none-some}
use Rattle.dms_wire.specs.Message.{VarBind}
use Rattle.dms_text.specs.Words.{words_of}
use Rattle.dms_text.specs.Reading.{word_at, ◌>>=◌}
use Rattle.dms_text.proofs.WordLaws.{begun, goes_on, word_found, word_only, decimal_found, decimal_only}
use Rattle.dms_codes.proofs.Options.{mapped_some}
use Rattle.dms_text_forms.specs.Fields.{SpellsOne}
use Rattle.dms_text_causes.specs.LineCauses.{cause_after, cause_at}
use Rattle.dms_text_causes.proofs.KeywordLines.{line_found, line_read}
use Rattle.dms_text_forms.proofs.WordReading.{last_found, by_keyword, by_text}
use Rattle.dms_text_forms.proofs.FieldLaws.{last_octets_found, last_octets_only}
use Rattle.dms_text_streams.proofs.CallReading.{bare_found, nothing_found}
use Rattle.dms_text_values.specs.ValueReading.{value_at}
use Rattle.dms_device.specs.declared.access.ManagerAccess.{ManagerAccess}
use Rattle.dms_device.specs.declared.access.ManagerAccess.TheVariants.{ReadOnly, Number, Octets}
use Rattle.dms_agent.specs.declared.agent.Agent.{Agent}
use Rattle.dms_sign_lines.specs.Answer as sign
use Rattle.dms_agent_lines.specs.AgentCall.{AgentCall, NewObject, receive, publish, withdraw, show_fonts, tell, put_back, save}
use Rattle.dms_agent_lines.specs.AgentLine.{SpellsAccess, SpellsObject, SpellsSet, SpellsCallWords, SpellsAgentCall, SpellsNoAgentCall}
use Rattle.dms_agent_lines.specs.AgentReading.{number_access_at, octets_access_at, access_after, written_access_at, access_at, object_at, withdraw_at, binding_at, keyword_of, keyword_in, call_after, call_of}
use Rattle.dms_agent_lines.specs.AgentForm.{words_cause, call_cause, bad_line_text}
use Rattle.dms_agent_lines.specs.AgentAnswer.{answer_text, after_line, call_text, after_call, text_without, after_without, text_if, after_if}
use Rattle.dms_agent_state.specs.ObjectFields.{SpellsName}
use Rattle.dms_agent_lines.specs.declared.cause.AgentCallCause.{AgentCallCause}
use Rattle.dms_agent_lines.specs.declared.cause.AgentCallCause.TheVariants as causes
use Rattle.dms_agent_lines.specs.declared.keywords.AgentKeyword.{AgentKeyword}
use Rattle.dms_agent_lines.specs.declared.keywords.AgentKeyword.TheVariants as key
use Rattle.dms_agent_state.proofs.ObjectWordLaws.{name_found, name_only, name_some, integer_found, integer_only}
use Rattle.dms_agent_state.proofs.ValueLaws.{value_found, value_only}

-- ---- keywords

abbrev keyword_text : AgentKeyword → List ℕ
keyword_text key.Datagram = codes "datagram"
keyword_text key.Object = codes "object"
keyword_text key.NoObject = codes "no-object"
keyword_text key.Fonts = codes "fonts"
keyword_text key.Objects = codes "objects"
keyword_text key.Set = codes "set"
keyword_text key.Save = codes "save"

keyword_some : (keyword : AgentKeyword) → 0 < length (keyword_text keyword)
keyword_some keyword = grind arith

keyword_only : (keyword : AgentKeyword) → keyword_of (keyword_text keyword) ≡ Some keyword
unfolding keyword_of
keyword_only keyword = grind arith

pub keyword_found : (word : List ℕ) (keyword : AgentKeyword) → keyword_of word ≡ Some keyword → word ≡ keyword_text keyword
unfolding keyword_of
keyword_found word keyword e =
    by_text keyword_text word key.Datagram keyword _ e λ e.
    by_text keyword_text word key.Object keyword _ e λ e.
    by_text keyword_text word key.NoObject keyword _ e λ e.
    by_text keyword_text word key.Fonts keyword _ e λ e.
    by_text keyword_text word key.Objects keyword _ e λ e.
    by_text keyword_text word key.Set keyword _ e λ e.
    by_text keyword_text word key.Save keyword _ e λ e.
    absurd (none-some keyword e)

-- ---- what a manager may write

number_access_found : (words : List (List ℕ)) (access : ManagerAccess) → number_access_at words ≡ Some access → SpellsAccess access (codes "number" ∷ words)
unfolding number_access_at
number_access_found words access e =
    let least = begun _ _ _ e in
    let most = begun _ _ _ least.2 in
    let first = integer_found words least.0 least.1 in
    let second = integer_found least.0.1 most.0 most.1 in
    let end = last_found (Number least.0.0 most.0.0) most.0.1 access most.2 in
    subst (λ access. SpellsAccess access (codes "number" ∷ words)) end.1 (record {
      least_word = first.word;
      most_word = second.word;
      words_are = ap (λ rest. codes "number" ∷ rest) (first.words_are
          ∙ ap (λ rest. first.word ∷ rest) (second.words_are ∙ ap (λ rest. second.word ∷ rest) end.0));
      has_least = first.spelled;
      has_most = second.spelled;
    })

octets_access_found : (words : List (List ℕ)) (access : ManagerAccess) → octets_access_at words ≡ Some access → SpellsAccess access (codes "octets" ∷ words)
unfolding octets_access_at
octets_access_found words access e =
    let least = begun _ _ _ e in
    let most = begun _ _ _ least.2 in
    let first = decimal_found 0 65535 words least.0 least.1 in
    let second = decimal_found 0 65535 least.0.1 most.0 most.1 in
    let end = last_found (Octets least.0.0 most.0.0) most.0.1 access most.2 in
    subst (λ access. SpellsAccess access (codes "octets" ∷ words)) end.1 (record {
      least_word = first.word;
      most_word = second.word;
      words_are = ap (λ rest. codes "octets" ∷ rest) (first.words_are
          ∙ ap (λ rest. first.word ∷ rest) (second.words_are ∙ ap (λ rest. second.word ∷ rest) end.0));
      has_least = first.spelled;
      has_most = second.spelled;
    })

access_after_found : (word : List ℕ) (words : List (List ℕ)) (access : ManagerAccess) → access_after word words ≡ Some access → SpellsAccess access (word ∷ words)
access_after_found word words access e =
    let at = λ (keyword : List ℕ) (is : word ≡ keyword) (read : SpellsAccess access (keyword ∷ words)).
    subst (λ word. SpellsAccess access (word ∷ words)) (sym is) read
    in
    by_keyword word (codes "number") _ _ access e (λ is e. at _ is (number_access_found words access e)) λ e.
    by_keyword word (codes "octets") _ _ access e (λ is e. at _ is (octets_access_found words access e)) λ e.
    absurd (none-some access e)

written_access_found : (words : List (List ℕ)) (access : ManagerAccess) → written_access_at words ≡ Some access → SpellsAccess access words
unfolding written_access_at
written_access_found words access e =
    let read = begun _ _ _ e in
    subst (SpellsAccess access) (sym (word_found words read.0 read.1).0) (access_after_found read.0.0 read.0.1 access read.2)

access_found : (words : List (List ℕ)) (access : ManagerAccess) → access_at words ≡ Some access → SpellsAccess access words
access_found [] access e = subst (λ access. SpellsAccess access []) (same_Some _ _ e) refl
access_found (word ∷ words) access e = written_access_found (word ∷ words) access e

number_read : (words : List (List ℕ)) → access_at (codes "number" ∷ words) ≡ number_access_at words
unfolding written_access_at word_at
number_read words = refl

octets_read : (words : List (List ℕ)) → access_at (codes "octets" ∷ words) ≡ octets_access_at words
unfolding written_access_at word_at
octets_read words = refl

access_only : (access : ManagerAccess) (words : List (List ℕ)) → SpellsAccess access words → access_at words ≡ Some access
unfolding number_access_at octets_access_at
access_only ReadOnly words spelled = ap access_at spelled
access_only (Number least most) words spelled =
    ap access_at spelled.words_are
    ∙ number_read (spelled.least_word ∷ spelled.most_word ∷ [])
    ∙ goes_on _ _ _ (integer_only spelled.least_word (spelled.most_word ∷ []) least spelled.has_least)
    ∙ goes_on _ _ _ (integer_only spelled.most_word [] most spelled.has_most)
access_only (Octets least most) words spelled =
    ap access_at spelled.words_are
    ∙ octets_read (spelled.least_word ∷ spelled.most_word ∷ [])
    ∙ goes_on _ _ _ (decimal_only 0 65535 least spelled.least_word (spelled.most_word ∷ []) spelled.has_least)
    ∙ goes_on _ _ _ (decimal_only 0 65535 most spelled.most_word [] spelled.has_most)

-- ---- objects and names

object_found : (words : List (List ℕ)) (object : NewObject) → object_at words ≡ Some object → SpellsObject object (codes "object" ∷ words)
unfolding object_at
object_found words object e =
    let read = begun _ _ _ e in
    let name = begun _ _ _ read.2 in
    let value = begun _ _ _ name.2 in
    let access = begun _ _ _ value.2 in
    let front = value_found read.0.1 value.0 value.1 in
    let made : NewObject = record { name = name.0; value = value.0.0; access = access.0 } in
    let same : made ≡ object = same_Some _ _ access.2 in
    subst (λ object. SpellsObject object (codes "object" ∷ words)) same (record {
      name_word = read.0.0;
      value_words = front.front;
      access_words = value.0.1;
      words_are = ap (λ rest. codes "object" ∷ rest) ((word_found words read.0 read.1).0 ∙ ap (λ rest. read.0.0 ∷ rest) front.words_are);
      name = name_found read.0.0 name.0 name.1;
      value = front.spelled;
      access = access_found value.0.1 access.0 access.1;
    })

object_only : (object : NewObject) (words : List (List ℕ)) (spelled : SpellsObject object words)
    → object_at (spelled.name_word ∷ (spelled.value_words ++ spelled.access_words)) ≡ Some object
unfolding object_at
object_only object words spelled =
    goes_on _ _ _ (word_only spelled.name_word _ (name_some spelled.name_word object.name spelled.name))
    ∙ goes_on _ _ _ (name_only spelled.name_word object.name spelled.name)
    ∙ goes_on _ _ _ (value_only object.value spelled.value_words spelled.access_words spelled.value)
    ∙ goes_on _ _ _ (access_only object.access spelled.access_words spelled.access)

withdraw_found : (words : List (List ℕ)) (name : List ℕ) → withdraw_at words ≡ Some name → SpellsOne (codes "no-object") (SpellsName name) (codes "no-object" ∷ words)
unfolding withdraw_at
withdraw_found words name e =
    let read = begun _ _ _ e in
    let found = begun _ _ _ read.2 in
    let end = last_found found.0 read.0.1 name found.2 in
    record {
      word = read.0.0;
      words_are = ap (λ rest. codes "no-object" ∷ rest) ((word_found words read.0 read.1).0 ∙ ap (λ rest. read.0.0 ∷ rest) end.0);
      spelled = subst (λ name. SpellsName name read.0.0) end.1 (name_found read.0.0 found.0 found.1);
    }

withdraw_only : (name word : List ℕ) → SpellsName name word → withdraw_at (word ∷ []) ≡ Some name
unfolding withdraw_at
withdraw_only name word spelled = goes_on _ _ _ (word_only word [] (name_some word name spelled)) ∙ goes_on _ _ _ (name_only word name spelled)

binding_found : (words : List (List ℕ)) (binding : VarBind) → binding_at words ≡ Some binding → SpellsSet binding (codes "set" ∷ words)
unfolding binding_at
binding_found words binding e =
    let read = begun _ _ _ e in
    let name = begun _ _ _ read.2 in
    let value = begun _ _ _ name.2 in
    let front = value_found read.0.1 value.0 value.1 in
    let made : VarBind = record { name = name.0; value = value.0.0 } in
    let end = last_found made value.0.1 binding value.2 in
    subst (λ binding. SpellsSet binding (codes "set" ∷ words)) end.1 (record {
      name_word = read.0.0;
      value_words = front.front;
      words_are = ap (λ rest. codes "set" ∷ rest) ((word_found words read.0 read.1).0
          ∙ ap (λ rest. read.0.0 ∷ rest) (front.words_are ∙ ap (λ rest. front.front ++ rest) end.0 ∙ append-nil front.front));
      name = name_found read.0.0 name.0 name.1;
      value = front.spelled;
    })

binding_only : (binding : VarBind) (words : List (List ℕ)) (spelled : SpellsSet binding words) → binding_at (spelled.name_word ∷ spelled.value_words) ≡ Some binding
unfolding binding_at
binding_only binding words spelled =
    goes_on _ _ _ (word_only spelled.name_word _ (name_some spelled.name_word binding.name spelled.name))
    ∙ goes_on _ _ _ (name_only spelled.name_word binding.name spelled.name)
    ∙ goes_on _ _ _ (ap value_at (sym (append-nil spelled.value_words)) ∙ value_only binding.value spelled.value_words [] spelled.value)

-- ---- calls

after_found : (keyword : AgentKeyword) (words : List (List ℕ)) (call : AgentCall) → call_after keyword words ≡ Some call
    → SpellsCallWords call (keyword_text keyword ∷ words)
after_found key.Datagram words call e =
    let made = mapped_some _ _ _ e in subst (λ call. SpellsCallWords call (codes "datagram" ∷ words)) made.2 (last_octets_found (codes "datagram") words made.0 made.1)
after_found key.Object words call e =
    let made = mapped_some _ _ _ e in subst (λ call. SpellsCallWords call (codes "object" ∷ words)) made.2 (object_found words made.0 made.1)
after_found key.NoObject words call e =
    let made = mapped_some _ _ _ e in subst (λ call. SpellsCallWords call (codes "no-object" ∷ words)) made.2 (withdraw_found words made.0 made.1)
after_found key.Fonts words call e = bare_found SpellsCallWords (codes "fonts") (codes "fonts") show_fonts call words refl e refl
after_found key.Objects words call e = bare_found SpellsCallWords (codes "objects") (codes "objects") tell call words refl e refl
after_found key.Set words call e =
    let made = mapped_some _ _ _ e in subst (λ call. SpellsCallWords call (codes "set" ∷ words)) made.2 (binding_found words made.0 made.1)
after_found key.Save words call e = bare_found SpellsCallWords (codes "save") (codes "save") save call words refl e refl

-- what is read of a line is what it spells
pub call_found : (line : List ℕ) (call : AgentCall) → call_of line ≡ Some call → SpellsAgentCall call line
unfolding call_of
call_found line call e = line_found keyword_of keyword_text call_after SpellsCallWords keyword_found after_found line call e

call_read : (keyword : AgentKeyword) (line : List ℕ) (words : List (List ℕ)) → words_of line ≡ keyword_text keyword ∷ words
    → call_of line ≡ call_after keyword words
unfolding call_of
call_read keyword line words e = line_read keyword_of keyword_text call_after keyword_some keyword_only keyword line words e

-- what a line spells is read of it
pub call_only : (line : List ℕ) (call : AgentCall) → SpellsAgentCall call line → call_of line ≡ Some call
call_only line (receive octets) spelled =
    call_read key.Datagram line _ spelled.words_are ∙ ap (option_map receive) (last_octets_only octets spelled.word spelled.spelled)
call_only line (publish object) spelled =
    call_read key.Object line _ spelled.words_are ∙ ap (option_map publish) (object_only object (words_of line) spelled)
call_only line (withdraw name) spelled =
    call_read key.NoObject line _ spelled.words_are ∙ ap (option_map withdraw) (withdraw_only name spelled.word spelled.spelled)
call_only line show_fonts spelled = call_read key.Fonts line [] spelled
call_only line tell spelled = call_read key.Objects line [] spelled
call_only line (put_back binding) spelled =
    call_read key.Set line _ spelled.words_are ∙ ap (option_map put_back) (binding_only binding (words_of line) spelled)
call_only line save spelled = call_read key.Save line [] spelled

-- a line spells at most one call
pub one_call : (line : List ℕ) (one other : AgentCall) → SpellsAgentCall one line → SpellsAgentCall other line → one ≡ other
one_call line one other this that = same_Some _ _ (sym (call_only line one this) ∙ call_only line other that)

pub none_read : (line : List ℕ) → SpellsNoAgentCall line → call_of line ≡ None
none_read line none = nothing_found (call_of line) (λ call e. none call (call_found line call e))

-- ---- answers

-- a line that begins with no word of a call
not_own : (line : List ℕ) → keyword_in line ≡ None → (call_of line ≡ None) × (call_cause line ≡ Some causes.Keyword)
unfolding keyword_in call_of
not_own line e = by_word (word_at (words_of line)) e
  where
    by_word : (found : Option (List ℕ × List (List ℕ))) → (found >>= (λ found. keyword_of found.0)) ≡ None
        → ((found >>= (λ found. keyword_of found.0 >>= (λ keyword. call_after keyword found.1))) ≡ None) × (cause_at causes.Keyword keyword_of words_cause found ≡ Some causes.Keyword)
    by_word None e = (refl, refl)
    by_word (Some found) e = (ap (λ keyword. keyword >>= (λ keyword. call_after keyword found.1)) e, ap (cause_after causes.Keyword words_cause found.1) e)

own_text : (a : Agent) (line : List ℕ) (cause : AgentCallCause) → (cause ≡ causes.Keyword → ⊥) → text_without a line cause ≡ bad_line_text cause
own_text a line causes.Keyword other = absurd (other refl)
own_text a line causes.Name other = refl
own_text a line causes.Value other = refl
own_text a line causes.Access other = refl
own_text a line (causes.Word fault) other = refl

own_after : (a : Agent) (line : List ℕ) (cause : AgentCallCause) → (cause ≡ causes.Keyword → ⊥) → after_without a line cause ≡ a
own_after a line causes.Keyword other = absurd (other refl)
own_after a line causes.Name other = refl
own_after a line causes.Value other = refl
own_after a line causes.Access other = refl
own_after a line (causes.Word fault) other = refl

text_by : (a : Agent) (line : List ℕ) (call : Option AgentCall) → call_of line ≡ call → answer_text a line ≡ text_if a line call (call_cause line)
text_by a line call is = ap (λ call. text_if a line call (call_cause line)) is

after_by : (a : Agent) (line : List ℕ) (call : Option AgentCall) → call_of line ≡ call → after_line a line ≡ after_if a line call (call_cause line)
after_by a line call is = ap (λ call. after_if a line call (call_cause line)) is

pub text_of_call : (a : Agent) (line : List ℕ) (call : AgentCall) → SpellsAgentCall call line → answer_text a line ≡ call_text a call
text_of_call a line call spelled = text_by a line (Some call) (call_only line call spelled)

pub after_the_call : (a : Agent) (line : List ℕ) (call : AgentCall) → SpellsAgentCall call line → after_line a line ≡ after_call a call
after_the_call a line call spelled = after_by a line (Some call) (call_only line call spelled)

pub text_of_the_sign : (a : Agent) (line : List ℕ) → keyword_in line ≡ None → answer_text a line ≡ sign.answer_text a.sign line
text_of_the_sign a line e = let is = not_own line e in text_by a line None is.0 ∙ ap (text_if a line None) is.1

pub after_the_sign : (a : Agent) (line : List ℕ) → keyword_in line ≡ None → after_line a line ≡ record a { sign = sign.after_line a.sign line }
after_the_sign a line e = let is = not_own line e in after_by a line None is.0 ∙ ap (after_if a line None) is.1

pub text_of_bad_line : (a : Agent) (line : List ℕ) (cause : AgentCallCause) → SpellsNoAgentCall line → call_cause line ≡ Some cause → (cause ≡ causes.Keyword → ⊥)
    → answer_text a line ≡ bad_line_text cause
text_of_bad_line a line cause none is other = text_by a line None (none_read line none) ∙ ap (text_if a line None) is ∙ own_text a line cause other

pub after_bad_line : (a : Agent) (line : List ℕ) (cause : AgentCallCause) → SpellsNoAgentCall line → call_cause line ≡ Some cause → (cause ≡ causes.Keyword → ⊥)
    → after_line a line ≡ a
after_bad_line a line cause none is other = after_by a line None (none_read line none) ∙ ap (after_if a line None) is ∙ own_after a line cause other
