-- The call that is read of a line is the one that the line spells.
use Rattle.std.proofs.Common.{◌≡◌, ℕ, ◌<◌, List, [], ◌∷◌, length, Option, Some, None, option_map, refl, sym, ap, subst, ◌∙◌, arith}
use Rattle.std.specs.Prelude.{codes}
use Rattle.std.proofs.lemmas.Option.{same_Some, none-some}
use Rattle.dms_text.specs.Words.{words_of}
use Rattle.dms_text.specs.Reading.{word_at, keyword_at}
use Rattle.dms_text.proofs.WordLaws.{begun, keyword_found}
use Rattle.dms_codes.specs.declared.codes.Order.{Order}
use Rattle.dms_codes.proofs.Options.{mapped_some}
use Rattle.dms_text_forms.proofs.WordReading.{by_text, last_found}
use Rattle.dms_text_forms.proofs.FieldLaws.{last_octets_found, last_octets_only}
use Rattle.dms_text_causes.proofs.KeywordLines.{line_found, line_read}
use Rattle.dms_centre_text.specs.CommandReading.{command_word}
use Rattle.dms_centre_text.specs.declared.command_word.CommandWord.{CommandWord}
use Rattle.dms_centre_text.proofs.CommandLaws.{command_text, command_some, command_word_found, command_after_found, is_read}
use Rattle.dms_text_streams.proofs.CallReading.{bare_found, nothing_found}
use Rattle.dms_centre_lines.specs.Calls.{CentreCall, command, datagram, tick, restart, status, status_last, save}
use Rattle.dms_centre_lines.specs.CallReading.{own_keyword, if_command, keyword_of, last_alone_at, status_after, call_after, call_of}
use Rattle.dms_centre_lines.specs.SpelledCalls.{SpellsCallWords, SpellsCentreCall, SpellsNoCall}
use Rattle.dms_centre_lines.specs.declared.keyword.CentreKeyword.{CentreKeyword}
use Rattle.dms_centre_lines.specs.declared.keyword.CentreKeyword.TheVariants as key

-- ---- keywords

abbrev keyword_text : CentreKeyword → List ℕ
keyword_text (key.Command asked) = command_text asked
keyword_text key.Datagram = codes "datagram"
keyword_text key.Tick = codes "tick"
keyword_text key.Restart = codes "restart"
keyword_text key.Status = codes "status"
keyword_text key.Save = codes "save"

keyword_some : (keyword : CentreKeyword) → 0 < length (keyword_text keyword)
keyword_some (key.Command asked) = command_some asked
keyword_some _ = omega arith

keyword_only : (keyword : CentreKeyword) → keyword_of (keyword_text keyword) ≡ Some keyword
unfolding keyword_of command_word
keyword_only keyword = grind arith

own_found : (word : List ℕ) (keyword : CentreKeyword) → own_keyword word ≡ Some keyword → word ≡ keyword_text keyword
own_found word keyword e =
    by_text keyword_text word key.Datagram keyword _ e λ e.
    by_text keyword_text word key.Tick keyword _ e λ e.
    by_text keyword_text word key.Restart keyword _ e λ e.
    by_text keyword_text word key.Status keyword _ e λ e.
    by_text keyword_text word key.Save keyword _ e λ e.
    absurd (none-some keyword e)

word_is_keyword : (word : List ℕ) (keyword : CentreKeyword) → keyword_of word ≡ Some keyword → word ≡ keyword_text keyword
unfolding keyword_of
word_is_keyword word keyword e = by_command word keyword (command_word word) refl e
  where
    by_command : (word : List ℕ) (keyword : CentreKeyword) (asked : Option CommandWord) → command_word word ≡ asked → if_command asked word ≡ Some keyword → word ≡ keyword_text keyword
    by_command word keyword (Some asked) is e = command_word_found word asked is ∙ ap keyword_text (same_Some _ _ e)
    by_command word keyword None is e = own_found word keyword e

-- ---- what is read is spelled

status_found : (order : Order) (call : CentreCall) (words : List (List ℕ)) → status_after words ≡ Some call → SpellsCallWords order call (codes "status" ∷ words)
unfolding last_alone_at
status_found order call [] e = subst (λ call. SpellsCallWords order call (codes "status" ∷ [])) (same_Some status call e) refl
status_found order call (next ∷ words) e =
    let read = begun _ _ _ e in
    let ends = last_found status_last read.0 call read.2 in
    subst (λ call. SpellsCallWords order call (codes "status" ∷ next ∷ words)) ends.1
    (ap (λ words. codes "status" ∷ words) (keyword_found (codes "last") (next ∷ words) read.0 read.1 ∙ ap (λ rest. codes "last" ∷ rest) ends.0))

after_found : (order : Order) (keyword : CentreKeyword) (words : List (List ℕ)) (call : CentreCall) → call_after order keyword words ≡ Some call
    → SpellsCallWords order call (keyword_text keyword ∷ words)
after_found order (key.Command asked) words call e =
    let made = mapped_some _ _ _ e in subst (λ call. SpellsCallWords order call (command_text asked ∷ words)) made.2 (command_after_found order asked words made.0 made.1)
after_found order key.Datagram words call e =
    let made = mapped_some _ _ _ e in subst (λ call. SpellsCallWords order call (codes "datagram" ∷ words)) made.2 (last_octets_found (codes "datagram") words made.0 made.1)
after_found order key.Tick words call e = bare_found (SpellsCallWords order) (codes "tick") (codes "tick") tick call words refl e refl
after_found order key.Restart words call e = bare_found (SpellsCallWords order) (codes "restart") (codes "restart") restart call words refl e refl
after_found order key.Status words call e = status_found order call words e
after_found order key.Save words call e = bare_found (SpellsCallWords order) (codes "save") (codes "save") save call words refl e refl

pub call_found : (order : Order) (line : List ℕ) (call : CentreCall) → call_of order line ≡ Some call → SpellsCentreCall order call line
unfolding call_of
call_found order line call e =
    line_found keyword_of keyword_text (call_after order) (SpellsCallWords order) word_is_keyword (after_found order) line call e

-- ---- what is spelled is read

call_read : (order : Order) (keyword : CentreKeyword) (line : List ℕ) (words : List (List ℕ)) → words_of line ≡ keyword_text keyword ∷ words
    → call_of order line ≡ call_after order keyword words
unfolding call_of
call_read order keyword line words e = line_read keyword_of keyword_text (call_after order) keyword_some keyword_only keyword line words e

last_read : (order : Order) → call_after order key.Status (codes "last" ∷ []) ≡ Some status_last
unfolding last_alone_at keyword_at word_at
last_read order = refl

pub call_only : (order : Order) (line : List ℕ) (call : CentreCall) → SpellsCentreCall order call line → call_of order line ≡ Some call
call_only order line (command asked) spelled =
    let is = is_read order asked (words_of line) spelled in
    call_read order (key.Command is.keyword) line is.rest is.words_are ∙ ap (option_map command) is.read
call_only order line (datagram octets) spelled =
    call_read order key.Datagram line _ spelled.words_are ∙ ap (option_map datagram) (last_octets_only octets spelled.word spelled.spelled)
call_only order line tick spelled = call_read order key.Tick line [] spelled
call_only order line restart spelled = call_read order key.Restart line [] spelled
call_only order line status spelled = call_read order key.Status line [] spelled
call_only order line status_last spelled = call_read order key.Status line (codes "last" ∷ []) spelled ∙ last_read order
call_only order line save spelled = call_read order key.Save line [] spelled

-- ---- one call a line

pub one_call : (order : Order) (line : List ℕ) (call other : CentreCall) → SpellsCentreCall order call line → SpellsCentreCall order other line → call ≡ other
one_call order line call other this that = same_Some _ _ (sym (call_only order line call this) ∙ call_only order line other that)

pub none_read : (order : Order) (line : List ℕ) → SpellsNoCall order line → call_of order line ≡ None
none_read order line none = nothing_found (call_of order line) (λ call e. none call (call_found order line call e))
