-- The call of a line is the one that the line spells, and the answer is the one of the call.
use Rattle.std.proofs.Common.{◌≡◌, ℕ, ◌<◌, List, [], ◌∷◌, length, Some, None, option_map, refl, sym, ap, subst, ◌∙◌, arith}
use Rattle.std.specs.Prelude.{codes}
use Rattle.std.proofs.lemmas.Option.{same_Some, none-some}
use Rattle.dms_text.specs.Words.{words_of}
use Rattle.dms_codes.proofs.Options.{mapped_some}
use Rattle.dms_sign.specs.State.{SignState}
use Rattle.dms_text_forms.proofs.WordReading.{by_text}
use Rattle.dms_text_forms.proofs.FieldLaws.{last_number_found, last_number_only, last_octets_found, last_octets_only}
use Rattle.dms_text_causes.proofs.KeywordLines.{line_found, line_read}
use Rattle.dms_text_streams.proofs.CallReading.{bare_found, nothing_found}
use Rattle.dms_sign_lines.specs.SignCall.{SignCall, datagram, tick, ticks, heard, power_lost, power_back, show, state, save}
use Rattle.dms_sign_lines.specs.SignLine.{SpellsCallWords, SpellsSignCall, SpellsNoSignCall}
use Rattle.dms_sign_lines.specs.SignReading.{keyword_of, call_after, call_of}
use Rattle.dms_sign_lines.specs.SignForm.{call_cause, bad_line_text}
use Rattle.dms_sign_lines.specs.Answer.{answer_text, after_line, call_text, after_call, text_if, after_if}
use Rattle.dms_sign_lines.specs.declared.cause.SignCallCause.{SignCallCause}
use Rattle.dms_sign_lines.specs.declared.keyword.SignKeyword.{SignKeyword}
use Rattle.dms_sign_lines.specs.declared.keyword.SignKeyword.TheVariants as key

-- ---- keywords

abbrev keyword_text : SignKeyword → List ℕ
keyword_text key.Datagram = codes "datagram"
keyword_text key.Tick = codes "tick"
keyword_text key.Ticks = codes "ticks"
keyword_text key.Heard = codes "heard"
keyword_text key.PowerLost = codes "power-lost"
keyword_text key.PowerBack = codes "power-back"
keyword_text key.Show = codes "show"
keyword_text key.State = codes "state"
keyword_text key.Save = codes "save"

keyword_some : (keyword : SignKeyword) → 0 < length (keyword_text keyword)
keyword_some keyword = grind arith

keyword_only : (keyword : SignKeyword) → keyword_of (keyword_text keyword) ≡ Some keyword
unfolding keyword_of
keyword_only keyword = grind arith

keyword_found : (word : List ℕ) (keyword : SignKeyword) → keyword_of word ≡ Some keyword → word ≡ keyword_text keyword
unfolding keyword_of
keyword_found word keyword e =
    by_text keyword_text word key.Datagram keyword _ e λ e.
    by_text keyword_text word key.Tick keyword _ e λ e.
    by_text keyword_text word key.Ticks keyword _ e λ e.
    by_text keyword_text word key.Heard keyword _ e λ e.
    by_text keyword_text word key.PowerLost keyword _ e λ e.
    by_text keyword_text word key.PowerBack keyword _ e λ e.
    by_text keyword_text word key.Show keyword _ e λ e.
    by_text keyword_text word key.State keyword _ e λ e.
    by_text keyword_text word key.Save keyword _ e λ e.
    absurd (none-some keyword e)

-- ---- calls

after_found : (keyword : SignKeyword) (words : List (List ℕ)) (call : SignCall) → call_after keyword words ≡ Some call
    → SpellsCallWords call (keyword_text keyword ∷ words)
after_found key.Datagram words call e =
    let made = mapped_some _ _ _ e in subst (λ call. SpellsCallWords call (codes "datagram" ∷ words)) made.2 (last_octets_found (codes "datagram") words made.0 made.1)
after_found key.Tick words call e = bare_found SpellsCallWords (codes "tick") (codes "tick") tick call words refl e refl
after_found key.Ticks words call e =
    let made = mapped_some _ _ _ e in subst (λ call. SpellsCallWords call (codes "ticks" ∷ words)) made.2 (last_number_found (codes "ticks") words made.0 made.1)
after_found key.Heard words call e = bare_found SpellsCallWords (codes "heard") (codes "heard") heard call words refl e refl
after_found key.PowerLost words call e = bare_found SpellsCallWords (codes "power-lost") (codes "power-lost") power_lost call words refl e refl
after_found key.PowerBack words call e =
    let made = mapped_some _ _ _ e in subst (λ call. SpellsCallWords call (codes "power-back" ∷ words)) made.2 (last_number_found (codes "power-back") words made.0 made.1)
after_found key.Show words call e = bare_found SpellsCallWords (codes "show") (codes "show") show call words refl e refl
after_found key.State words call e = bare_found SpellsCallWords (codes "state") (codes "state") state call words refl e refl
after_found key.Save words call e = bare_found SpellsCallWords (codes "save") (codes "save") save call words refl e refl

-- what is read of a line is what it spells
pub call_found : (line : List ℕ) (call : SignCall) → call_of line ≡ Some call → SpellsSignCall call line
unfolding call_of
call_found line call e = line_found keyword_of keyword_text call_after SpellsCallWords keyword_found after_found line call e

call_read : (keyword : SignKeyword) (line : List ℕ) (words : List (List ℕ)) → words_of line ≡ keyword_text keyword ∷ words
    → call_of line ≡ call_after keyword words
unfolding call_of
call_read keyword line words e = line_read keyword_of keyword_text call_after keyword_some keyword_only keyword line words e

-- what a line spells is read of it
pub call_only : (line : List ℕ) (call : SignCall) → SpellsSignCall call line → call_of line ≡ Some call
call_only line (datagram octets) spelled =
    call_read key.Datagram line _ spelled.words_are ∙ ap (option_map datagram) (last_octets_only octets spelled.word spelled.spelled)
call_only line tick spelled = call_read key.Tick line [] spelled
call_only line (ticks seconds) spelled =
    call_read key.Ticks line _ spelled.words_are ∙ ap (option_map ticks) (last_number_only seconds spelled.word spelled.spelled)
call_only line heard spelled = call_read key.Heard line [] spelled
call_only line power_lost spelled = call_read key.PowerLost line [] spelled
call_only line (power_back seconds) spelled =
    call_read key.PowerBack line _ spelled.words_are ∙ ap (option_map power_back) (last_number_only seconds spelled.word spelled.spelled)
call_only line show spelled = call_read key.Show line [] spelled
call_only line state spelled = call_read key.State line [] spelled
call_only line save spelled = call_read key.Save line [] spelled

-- a line spells at most one call
pub one_call : (line : List ℕ) (one other : SignCall) → SpellsSignCall one line → SpellsSignCall other line → one ≡ other
one_call line one other this that = same_Some _ _ (sym (call_only line one this) ∙ call_only line other that)

pub none_read : (line : List ℕ) → SpellsNoSignCall line → call_of line ≡ None
none_read line none = nothing_found (call_of line) (λ call e. none call (call_found line call e))

-- ---- answers

pub text_of_call : (s : SignState) (line : List ℕ) (call : SignCall) → SpellsSignCall call line → answer_text s line ≡ call_text s call
text_of_call s line call spelled = ap (λ found. text_if s found (call_cause line)) (call_only line call spelled)

pub after_the_call : (s : SignState) (line : List ℕ) (call : SignCall) → SpellsSignCall call line → after_line s line ≡ after_call s call
after_the_call s line call spelled = ap (after_if s) (call_only line call spelled)

pub text_of_bad_line : (s : SignState) (line : List ℕ) (cause : SignCallCause) → SpellsNoSignCall line → call_cause line ≡ Some cause
    → answer_text s line ≡ bad_line_text cause
text_of_bad_line s line cause none is = ap (λ found. text_if s found (call_cause line)) (none_read line none) ∙ ap (text_if s None) is

pub after_bad_line : (s : SignState) (line : List ℕ) → SpellsNoSignCall line → after_line s line ≡ s
after_bad_line s line none = ap (after_if s) (none_read line none)
