-- The event of a line is the one that the line spells.
use Rattle.std.proofs.Common.{◌≡◌, ℕ, ◌<◌, List, [], ◌∷◌, length, Option, Some, None, option_map, refl, sym, ap, subst, ◌∙◌, arith}
use Rattle.std.specs.Prelude.{codes}
use Rattle.std.proofs.lemmas.Option.{same_Some, none-some}
use Rattle.dms_text.specs.Words.{words_of}
use Rattle.dms_codes.specs.declared.codes.Order.{Order}
use Rattle.dms_codes.proofs.Options.{mapped_some}
use Rattle.dms_world.specs.Event.{EventModel, command, sign_tick, centre_tick, to_sign, to_centre, power_lost, power_back, centre_restart, forge_sign, forge_centre}
use Rattle.dms_text_forms.specs.Fields.{SpellsEach}
use Rattle.dms_text_forms.proofs.WordReading.{by_text}
use Rattle.dms_text_forms.proofs.FieldLaws.{last_number_found, last_number_only, last_octets_found, last_octets_only}
use Rattle.dms_text_causes.proofs.KeywordLines.{line_found, line_read}
use Rattle.dms_text_streams.proofs.CallReading.{bare_found}
use Rattle.dms_centre_text.specs.CommandReading.{command_word}
use Rattle.dms_centre_text.specs.declared.command_word.CommandWord.{CommandWord}
use Rattle.dms_centre_text.proofs.CommandLaws.{command_text, command_some, command_word_found, command_after_found, is_read}
use Rattle.dms_replay.specs.EventLine.{SpellsEventWords, SpellsEvent}
use Rattle.dms_replay.specs.EventReading.{keyword_of, own_keyword, later_keyword, if_command, event_after, event_of}
use Rattle.dms_replay.specs.EventView.{script_event_model}
use Rattle.dms_replay.specs.declared.script_event.ScriptEvent.{ScriptEvent}
use Rattle.dms_replay.specs.declared.keyword.EventKeyword.{EventKeyword}
use Rattle.dms_replay.specs.declared.keyword.EventKeyword.TheVariants as key

-- ---- events

abbrev keyword_text : EventKeyword → List ℕ
keyword_text (key.Command asked) = command_text asked
keyword_text key.SignTick = codes "sign-tick"
keyword_text key.CentreTick = codes "centre-tick"
keyword_text key.ToSign = codes "to-sign"
keyword_text key.ToCentre = codes "to-centre"
keyword_text key.PowerLost = codes "power-lost"
keyword_text key.PowerBack = codes "power-back"
keyword_text key.CentreRestart = codes "centre-restart"
keyword_text key.ForgeSign = codes "forge-sign"
keyword_text key.ForgeCentre = codes "forge-centre"

keyword_some : (keyword : EventKeyword) → 0 < length (keyword_text keyword)
keyword_some (key.Command asked) = command_some asked
keyword_some _ = omega arith

keyword_only : (keyword : EventKeyword) → keyword_of (keyword_text keyword) ≡ Some keyword
unfolding keyword_of command_word
keyword_only keyword = grind arith

later_found : (word : List ℕ) (keyword : EventKeyword) → later_keyword word ≡ Some keyword → word ≡ keyword_text keyword
later_found word keyword e =
    by_text keyword_text word key.PowerLost keyword _ e λ e.
    by_text keyword_text word key.PowerBack keyword _ e λ e.
    by_text keyword_text word key.CentreRestart keyword _ e λ e.
    by_text keyword_text word key.ForgeSign keyword _ e λ e.
    by_text keyword_text word key.ForgeCentre keyword _ e λ e.
    absurd (none-some keyword e)

own_found : (word : List ℕ) (keyword : EventKeyword) → own_keyword word ≡ Some keyword → word ≡ keyword_text keyword
own_found word keyword e =
    by_text keyword_text word key.SignTick keyword _ e λ e.
    by_text keyword_text word key.CentreTick keyword _ e λ e.
    by_text keyword_text word key.ToSign keyword _ e λ e.
    by_text keyword_text word key.ToCentre keyword _ e λ e.
    later_found word keyword e

keyword_found : (word : List ℕ) (keyword : EventKeyword) → keyword_of word ≡ Some keyword → word ≡ keyword_text keyword
unfolding keyword_of
keyword_found word keyword e = by_command word keyword (command_word word) refl e
  where
    by_command : (word : List ℕ) (keyword : EventKeyword) (asked : Option CommandWord) → command_word word ≡ asked → if_command asked word ≡ Some keyword → word ≡ keyword_text keyword
    by_command word keyword (Some asked) is e = command_word_found word asked is ∙ ap keyword_text (same_Some _ _ e)
    by_command word keyword None is e = own_found word keyword e

after_found : (order : Order) (keyword : EventKeyword) (words : List (List ℕ)) (event : EventModel) → event_after order keyword words ≡ Some event
    → SpellsEventWords order event (keyword_text keyword ∷ words)
after_found order (key.Command asked) words event e =
    let made = mapped_some _ _ _ e in subst (λ event. SpellsEventWords order event (command_text asked ∷ words)) made.2 (command_after_found order asked words made.0 made.1)
after_found order key.SignTick words event e = bare_found (SpellsEventWords order) (codes "sign-tick") (codes "sign-tick") sign_tick event words refl e refl
after_found order key.CentreTick words event e = bare_found (SpellsEventWords order) (codes "centre-tick") (codes "centre-tick") centre_tick event words refl e refl
after_found order key.ToSign words event e =
    let made = mapped_some _ _ _ e in subst (λ event. SpellsEventWords order event (codes "to-sign" ∷ words)) made.2 (last_number_found (codes "to-sign") words made.0 made.1)
after_found order key.ToCentre words event e =
    let made = mapped_some _ _ _ e in subst (λ event. SpellsEventWords order event (codes "to-centre" ∷ words)) made.2 (last_number_found (codes "to-centre") words made.0 made.1)
after_found order key.PowerLost words event e = bare_found (SpellsEventWords order) (codes "power-lost") (codes "power-lost") power_lost event words refl e refl
after_found order key.PowerBack words event e =
    let made = mapped_some _ _ _ e in subst (λ event. SpellsEventWords order event (codes "power-back" ∷ words)) made.2 (last_number_found (codes "power-back") words made.0 made.1)
after_found order key.CentreRestart words event e = bare_found (SpellsEventWords order) (codes "centre-restart") (codes "centre-restart") centre_restart event words refl e refl
after_found order key.ForgeSign words event e =
    let made = mapped_some _ _ _ e in subst (λ event. SpellsEventWords order event (codes "forge-sign" ∷ words)) made.2 (last_octets_found (codes "forge-sign") words made.0 made.1)
after_found order key.ForgeCentre words event e =
    let made = mapped_some _ _ _ e in subst (λ event. SpellsEventWords order event (codes "forge-centre" ∷ words)) made.2 (last_octets_found (codes "forge-centre") words made.0 made.1)

pub event_found : (order : Order) (line : List ℕ) (event : EventModel) → event_of order line ≡ Some event → SpellsEvent order event line
unfolding event_of
event_found order line event e =
    line_found keyword_of keyword_text (event_after order) (SpellsEventWords order) keyword_found (after_found order) line event e

event_read : (order : Order) (keyword : EventKeyword) (line : List ℕ) (words : List (List ℕ)) → words_of line ≡ keyword_text keyword ∷ words
    → event_of order line ≡ event_after order keyword words
unfolding event_of
event_read order keyword line words e = line_read keyword_of keyword_text (event_after order) keyword_some keyword_only keyword line words e

pub event_only : (order : Order) (line : List ℕ) (event : EventModel) → SpellsEvent order event line → event_of order line ≡ Some event
event_only order line (command asked) spelled =
    let is = is_read order asked (words_of line) spelled in
    event_read order (key.Command is.keyword) line is.rest is.words_are ∙ ap (option_map command) is.read
event_only order line sign_tick spelled = event_read order key.SignTick line [] spelled
event_only order line centre_tick spelled = event_read order key.CentreTick line [] spelled
event_only order line (to_sign place) spelled =
    event_read order key.ToSign line _ spelled.words_are ∙ ap (option_map to_sign) (last_number_only place spelled.word spelled.spelled)
event_only order line (to_centre place) spelled =
    event_read order key.ToCentre line _ spelled.words_are ∙ ap (option_map to_centre) (last_number_only place spelled.word spelled.spelled)
event_only order line power_lost spelled = event_read order key.PowerLost line [] spelled
event_only order line (power_back seconds) spelled =
    event_read order key.PowerBack line _ spelled.words_are ∙ ap (option_map power_back) (last_number_only seconds spelled.word spelled.spelled)
event_only order line centre_restart spelled = event_read order key.CentreRestart line [] spelled
event_only order line (forge_sign datagram) spelled =
    event_read order key.ForgeSign line _ spelled.words_are ∙ ap (option_map forge_sign) (last_octets_only datagram spelled.word spelled.spelled)
event_only order line (forge_centre datagram) spelled =
    event_read order key.ForgeCentre line _ spelled.words_are ∙ ap (option_map forge_centre) (last_octets_only datagram spelled.word spelled.spelled)

pub spelled_if_read : (order : Order) (line : List ℕ) (event : ScriptEvent) → Some (script_event_model event) ≡ event_of order line
    → SpellsEvent order (script_event_model event) line
spelled_if_read order line event e = event_found order line (script_event_model event) (sym e)

pub none_if_not_read : (order : Order) (line : List ℕ) → None ≡ event_of order line → (event : EventModel) → SpellsEvent order event line → ⊥
none_if_not_read order line e event spelled = let never : None ≡ Some event = e ∙ event_only order line event spelled in cc

pub ruleset events_spelled = (spelled_if_read, none_if_not_read)

-- a line spells at most one event
pub one_event : (order : Order) (line : List ℕ) (one other : EventModel) → SpellsEvent order one line → SpellsEvent order other line → one ≡ other
one_event order line one other this that = same_Some _ _ (sym (event_only order line one this) ∙ event_only order line other that)

-- lines spell at most one list of events
pub one_list : (order : Order) (lines : List (List ℕ)) (one other : List EventModel) → SpellsEach (SpellsEvent order) one lines → SpellsEach (SpellsEvent order) other lines
    → one ≡ other
one_list order [] [] [] this that = refl
one_list order [] [] (event ∷ other) this that = absurd that
one_list order [] (event ∷ one) other this that = absurd this
one_list order (line ∷ lines) [] other this that = absurd (let never : line ∷ lines ≡ [] = this in cc)
one_list order (line ∷ lines) (event ∷ one) [] this that = absurd (let never : line ∷ lines ≡ [] = that in cc)
one_list order (line ∷ lines) (event ∷ one) (another ∷ other) this that =
    let first : event ≡ another = one_event order line event another this.0 that.0 in
    let rest : one ≡ other = one_list order lines one other this.1 that.1 in
    cc
