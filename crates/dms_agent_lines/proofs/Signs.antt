-- A line that concerns the sign alone has the sign's answer, where nothing is published and fonts cannot be read.
use Rattle.std.proofs.Common.{◌≡◌, ℕ, List, [], ◌∷◌, Option, Some, None, ◌++◌, option_map, refl, sym, ap, ◌∙◌, append-nil}
use Rattle.std.specs.Prelude.{codes}
use Rattle.dms_text.specs.Words.{words_of}
use Rattle.dms_text.specs.Reading.{word_at, ◌>>=◌}
use Rattle.dms_text.proofs.WordLaws.{word_found}
use Rattle.dms_text_forms.specs.Form.{fault_from}
use Rattle.dms_text_forms.specs.FieldsReading.{if_last, last_octets_at}
use Rattle.dms_text_causes.specs.LineCauses.{cause_after, cause_at, form_cause}
use Rattle.dms_text_forms.specs.declared.fault.WordFault.{WordFault}
use Rattle.dms_text_forms.specs.declared.vocabulary.WordName.TheVariants as names
use Rattle.dms_text_forms.specs.declared.wanted.Wanted.TheVariants as wants
use Rattle.dms_sign.specs.State.{SignState}
use Rattle.dms_agent.specs.Promises.{alone}
use Rattle.dms_agent.proofs.Alone.{received_alone}
use Rattle.dms_sign_lines.specs.Answer as sign
use Rattle.dms_text_streams.specs.Conversation.{ok_line}
use Rattle.dms_sign_state.specs.StateText.{text_of_state}
use Rattle.dms_sign_lines.specs.SignCall.{datagram, save as save_sign}
use Rattle.dms_sign_lines.specs.SignReading as sign_reading
use Rattle.dms_sign_lines.specs.SignForm as sign_form
use Rattle.dms_sign_lines.specs.declared.cause.SignCallCause.TheVariants as sign_causes
use Rattle.dms_agent_lines.specs.AgentCall.{receive, save}
use Rattle.dms_agent_lines.specs.AgentForm.{words_cause, call_cause}
use Rattle.dms_agent_lines.specs.AgentReading.{keyword_of, keyword_in, call_after, call_of}
use Rattle.dms_agent_lines.specs.AgentAnswer.{received_text, text_if, after_if, answer_text, after_line}
use Rattle.dms_agent_lines.specs.Alone.{IsOfSign}
use Rattle.dms_agent_lines.specs.declared.cause.AgentCallCause.TheVariants as causes
use Rattle.dms_agent_lines.specs.declared.keywords.AgentKeyword.{AgentKeyword}
use Rattle.dms_agent_lines.specs.declared.keywords.AgentKeyword.TheVariants as key
use Rattle.dms_agent_lines.proofs.CallLaws.{keyword_found}

-- ---- the line of a datagram

abbrev octets_fault : List (List ℕ) → Option WordFault
octets_fault words = fault_from 2 (wants.Octets names.Datagram ∷ []) words

datagram_words : (line : List ℕ) (found : List ℕ × List (List ℕ)) → word_at (words_of line) ≡ Some found → keyword_of found.0 ≡ Some key.Datagram
    → words_of line ≡ codes "datagram" ∷ found.1
datagram_words line found is named = (word_found (words_of line) found is).0 ∙ ap (λ word. word ∷ found.1) (keyword_found found.0 key.Datagram named)

-- what the sign reads of it, and what it finds at fault
sign_call : (line : List ℕ) (words : List (List ℕ)) → words_of line ≡ codes "datagram" ∷ words → sign_reading.call_of line ≡ option_map datagram (last_octets_at words)
unfolding sign_reading.call_of sign_reading.keyword_of word_at
sign_call line words e = ap (λ words. word_at words >>= (λ found. sign_reading.keyword_of found.0 >>= (λ keyword. sign_reading.call_after keyword found.1))) e

sign_cause : (line : List ℕ) (words : List (List ℕ)) → words_of line ≡ codes "datagram" ∷ words → sign_form.call_cause line ≡ option_map sign_causes.Word (octets_fault words)
unfolding sign_reading.keyword_of word_at
sign_cause line words e = ap (λ words. cause_at sign_causes.Keyword sign_reading.keyword_of (form_cause sign_causes.Word sign_form.form_after) (word_at words)) e

-- ---- the line that asks for the state

save_words : (line : List ℕ) (found : List ℕ × List (List ℕ)) → word_at (words_of line) ≡ Some found → keyword_of found.0 ≡ Some key.Save
    → words_of line ≡ codes "save" ∷ found.1
save_words line found is named = (word_found (words_of line) found is).0 ∙ ap (λ word. word ∷ found.1) (keyword_found found.0 key.Save named)

save_call : (line : List ℕ) (words : List (List ℕ)) → words_of line ≡ codes "save" ∷ words → sign_reading.call_of line ≡ if_last save_sign words
unfolding sign_reading.call_of sign_reading.keyword_of word_at
save_call line words e = ap (λ words. word_at words >>= (λ found. sign_reading.keyword_of found.0 >>= (λ keyword. sign_reading.call_after keyword found.1))) e

save_cause : (line : List ℕ) (words : List (List ℕ)) → words_of line ≡ codes "save" ∷ words → sign_form.call_cause line ≡ option_map sign_causes.Word (fault_from 2 [] words)
unfolding sign_reading.keyword_of word_at
save_cause line words e = ap (λ words. cause_at sign_causes.Keyword sign_reading.keyword_of (form_cause sign_causes.Word sign_form.form_after) (word_at words)) e

saved_text : (s : SignState) (line : List ℕ) (words : List (List ℕ)) (fault : Option WordFault)
    → text_if (alone s) line (if_last save words) (option_map causes.Word fault) ≡ sign.text_if s (if_last save_sign words) (option_map sign_causes.Word fault)
saved_text s line [] fault = ap (λ text. text ++ ok_line) (append-nil (text_of_state s))
saved_text s line (word ∷ words) (Some fault) = refl
saved_text s line (word ∷ words) None = refl

saved_after : (s : SignState) (line : List ℕ) (words : List (List ℕ)) (fault : Option WordFault)
    → after_if (alone s) line (if_last save words) (option_map causes.Word fault) ≡ alone (sign.after_if s (if_last save_sign words))
saved_after s line [] fault = refl
saved_after s line (word ∷ words) (Some fault) = refl
saved_after s line (word ∷ words) None = refl

-- ---- answers

same_text : (s : SignState) (line : List ℕ) (octets : Option (List ℕ)) (fault : Option WordFault)
    → text_if (alone s) line (option_map receive octets) (option_map causes.Word fault) ≡ sign.text_if s (option_map datagram octets) (option_map sign_causes.Word fault)
same_text s line (Some octets) fault = ap (received_text s.table.order) (received_alone s octets)
same_text s line None (Some fault) = refl
same_text s line None None = refl

text_by_keyword : (s : SignState) (line : List ℕ) (found : List ℕ × List (List ℕ)) (keyword : Option AgentKeyword) → word_at (words_of line) ≡ Some found
    → keyword_of found.0 ≡ keyword → IsOfSign keyword
    → text_if (alone s) line (keyword >>= (λ keyword. call_after keyword found.1)) (cause_after causes.Keyword words_cause found.1 keyword) ≡ sign.answer_text s line
text_by_keyword s line found None is named of_sign = refl
text_by_keyword s line found (Some key.Datagram) is named of_sign =
    let words = datagram_words line found is named in
    same_text s line (last_octets_at found.1) (octets_fault found.1)
    ∙ sym (ap (λ call. sign.text_if s call (sign_form.call_cause line)) (sign_call line found.1 words)
    ∙ ap (sign.text_if s (option_map datagram (last_octets_at found.1))) (sign_cause line found.1 words))
text_by_keyword s line found (Some key.Object) is named of_sign = absurd of_sign
text_by_keyword s line found (Some key.NoObject) is named of_sign = absurd of_sign
text_by_keyword s line found (Some key.Fonts) is named of_sign = absurd of_sign
text_by_keyword s line found (Some key.Objects) is named of_sign = absurd of_sign
text_by_keyword s line found (Some key.Set) is named of_sign = absurd of_sign
text_by_keyword s line found (Some key.Save) is named of_sign =
    let words = save_words line found is named in
    saved_text s line found.1 (fault_from 2 [] found.1)
    ∙ sym (ap (λ call. sign.text_if s call (sign_form.call_cause line)) (save_call line found.1 words)
    ∙ ap (sign.text_if s (if_last save_sign found.1)) (save_cause line found.1 words))

text_from : (s : SignState) (line : List ℕ) (found : Option (List ℕ × List (List ℕ))) → word_at (words_of line) ≡ found → IsOfSign (found >>= (λ found. keyword_of found.0))
    → text_if (alone s) line (found >>= (λ found. keyword_of found.0 >>= (λ keyword. call_after keyword found.1))) (cause_at causes.Keyword keyword_of words_cause found) ≡ sign.answer_text s line
text_from s line None is of_sign = refl
text_from s line (Some found) is of_sign = text_by_keyword s line found (keyword_of found.0) is refl of_sign

pub text_alone : (s : SignState) (line : List ℕ) → IsOfSign (keyword_in line) → answer_text (alone s) line ≡ sign.answer_text s line
unfolding keyword_in call_of
text_alone s line of_sign = text_from s line (word_at (words_of line)) refl of_sign

-- ---- what is left

same_after : (s : SignState) (line : List ℕ) (octets : Option (List ℕ)) (fault : Option WordFault)
    → after_if (alone s) line (option_map receive octets) (option_map causes.Word fault) ≡ alone (sign.after_if s (option_map datagram octets))
same_after s line (Some octets) fault = ap (λ r. r.after) (received_alone s octets)
same_after s line None (Some fault) = refl
same_after s line None None = refl

after_by_keyword : (s : SignState) (line : List ℕ) (found : List ℕ × List (List ℕ)) (keyword : Option AgentKeyword) → word_at (words_of line) ≡ Some found
    → keyword_of found.0 ≡ keyword → IsOfSign keyword
    → after_if (alone s) line (keyword >>= (λ keyword. call_after keyword found.1)) (cause_after causes.Keyword words_cause found.1 keyword) ≡ alone (sign.after_line s line)
after_by_keyword s line found None is named of_sign = refl
after_by_keyword s line found (Some key.Datagram) is named of_sign =
    same_after s line (last_octets_at found.1) (octets_fault found.1)
    ∙ sym (ap (λ call. alone (sign.after_if s call)) (sign_call line found.1 (datagram_words line found is named)))
after_by_keyword s line found (Some key.Object) is named of_sign = absurd of_sign
after_by_keyword s line found (Some key.NoObject) is named of_sign = absurd of_sign
after_by_keyword s line found (Some key.Fonts) is named of_sign = absurd of_sign
after_by_keyword s line found (Some key.Objects) is named of_sign = absurd of_sign
after_by_keyword s line found (Some key.Set) is named of_sign = absurd of_sign
after_by_keyword s line found (Some key.Save) is named of_sign =
    saved_after s line found.1 (fault_from 2 [] found.1)
    ∙ sym (ap (λ call. alone (sign.after_if s call)) (save_call line found.1 (save_words line found is named)))

after_from : (s : SignState) (line : List ℕ) (found : Option (List ℕ × List (List ℕ))) → word_at (words_of line) ≡ found → IsOfSign (found >>= (λ found. keyword_of found.0))
    → after_if (alone s) line (found >>= (λ found. keyword_of found.0 >>= (λ keyword. call_after keyword found.1))) (cause_at causes.Keyword keyword_of words_cause found) ≡ alone (sign.after_line s line)
after_from s line None is of_sign = refl
after_from s line (Some found) is of_sign = after_by_keyword s line found (keyword_of found.0) is refl of_sign

pub after_alone : (s : SignState) (line : List ℕ) → IsOfSign (keyword_in line) → after_line (alone s) line ≡ alone (sign.after_line s line)
unfolding keyword_in call_of
after_alone s line of_sign = after_from s line (word_at (words_of line)) refl of_sign
