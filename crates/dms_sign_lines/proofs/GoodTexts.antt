-- What a sign shows can be drawn: as it is made, and after every line.
use Rattle.std.proofs.Common.{◌≡◌, ℕ, zero, suc, ◌&&◌, Bool, true, false, cond, IsTrue, List, [], ◌⊎◌, inl, inr, Option, Some, None, Ok, sym, ap, subst, ◌∙◌, map}
use Rattle.std.proofs.lemmas.Bool.{and_parts}
use Rattle.dms_codes.specs.declared.codes.Activation.{Activation}
use Rattle.dms_face.specs.declared.defaults.Defaults.{Defaults}
use Rattle.dms_face.specs.Face.{FaceModel, is_matrix, are_fonts, fit, is_face}
use Rattle.dms_face.specs.Layout.{under}
use Rattle.dms_face.specs.Fit.{IsGood, fault_of, or_fault}
use Rattle.dms_face.specs.Cells.{pages_of}
use Rattle.dms_face.proofs.GoodLaws.{empty_is_good, faultless_law}
use Rattle.dms_face_pages.specs.Drawn.{drawn, drawn_text}
use Rattle.dms_table.specs.Rows.{TableModel}
use Rattle.dms_table.specs.Activation.{ShownModel}
use Rattle.dms_sign.specs.State.{ConfigModel, SignState, start}
use Rattle.dms_sign.specs.Reply.{awake}
use Rattle.dms_sign.specs.Events.{after_tick, after_ticks}
use Rattle.dms_sign.specs.Transitions.{HasFitDefaults, IsSameMessage, IsBlankedUnder, IsRowOf, ShowsNow, stayed, came_back, blanked, activated, fell_back, IsSignStep}
use Rattle.dms_sign.proofs.StepDefaults.{received_fits, tick_fits, power_loss_fits, power_return_fits}
use Rattle.dms_sign_laws.proofs.StepEvents.{step_received, step_tick, step_power_loss, step_power_return}
use Rattle.dms_sign_lines.specs.SignCall.{SignCall, datagram, tick, ticks, heard, power_lost, power_back, show, state, save}
use Rattle.dms_sign_lines.specs.SignReading.{call_of}
use Rattle.dms_sign_lines.specs.Answer.{pages_or_none, shown_pages, after_call, after_if, after_line}
use Rattle.dms_sign_lines.specs.GoodTexts.{CanBeDrawn, ShowsGoodTexts}

-- ---- as a sign is made

face_fits : (face : FaceModel) → IsTrue (is_face face) → IsTrue (fit face.fonts face.defaults)
face_fits face is = (and_parts (is_matrix face.width face.height && are_fonts face.fonts) (fit face.fonts face.defaults) is).1

pub good_as_made : (config : ConfigModel) (table : TableModel) → IsTrue (is_face config.face) → ShowsGoodTexts (start config table)
good_as_made config table is =
    let fits = face_fits config.face is in
    record {
      own = fits;
      shown = record { defaults = fits; text = empty_is_good (under config.face config.face.defaults) };
      shown_at_power_loss = record { defaults = fits; text = empty_is_good (under config.face config.face.defaults) };
    }

-- ---- one step

-- the same message
drawn_as : (face : FaceModel) (a b : ShownModel) → IsSameMessage a b → CanBeDrawn face a → CanBeDrawn face b
drawn_as face a b same can = record {
  defaults = subst (λ (d : Defaults). IsTrue (fit face.fonts d)) (sym same.defaults) can.defaults;
  text = subst (λ (d : Defaults). IsGood (under face d) b.text) (sym same.defaults)
      (subst (IsGood (under face a.defaults)) (sym same.text) can.text);
}

drawn_blank : (face : FaceModel) (defaults : Defaults) (shown : ShownModel) → IsTrue (fit face.fonts defaults) → IsBlankedUnder defaults shown → CanBeDrawn face shown
drawn_blank face defaults shown fits is = record {
  defaults = subst (λ (d : Defaults). IsTrue (fit face.fonts d)) (sym is.copied) fits;
  text = subst (IsGood (under face shown.defaults)) (sym is.text) (empty_is_good (under face shown.defaults));
}

drawn_row : (face : FaceModel) (defaults : Defaults) (table : TableModel) (shown : ShownModel) → IsTrue (fit face.fonts defaults) → IsRowOf face defaults table shown
    → CanBeDrawn face shown
drawn_row face defaults table shown fits is = record {
  defaults = subst (λ (d : Defaults). IsTrue (fit face.fonts d)) (sym is.copied) fits;
  text = subst (λ (d : Defaults). IsGood (under face d) shown.text) (sym is.copied) is.good;
}

-- the face stays
drawn_still : (old new : ConfigModel) (shown : ShownModel) → new ≡ old → CanBeDrawn old.face shown → CanBeDrawn new.face shown
drawn_still old new shown same can = subst (λ (c : ConfigModel). CanBeDrawn c.face shown) (sym same) can

shown_next : (old new : SignState) (accepted : Option Activation) → ShowsGoodTexts old → HasFitDefaults new → new.config ≡ old.config → ShowsNow old new accepted
    → CanBeDrawn new.config.face new.shown
shown_next old new accepted was fits same (stayed message) =
    drawn_as new.config.face old.shown new.shown message (drawn_still old.config new.config old.shown same was.shown)
shown_next old new accepted was fits same (came_back message) =
    drawn_as new.config.face old.shown_at_power_loss new.shown message (drawn_still old.config new.config old.shown_at_power_loss same was.shown_at_power_loss)
shown_next old new accepted was fits same (blanked is) = drawn_blank new.config.face new.settings.defaults new.shown fits is
shown_next old new accepted was fits same (activated code e source is) = drawn_row new.config.face new.settings.defaults new.table new.shown fits is
shown_next old new accepted was fits same (fell_back own is) = drawn_row new.config.face new.settings.defaults new.table new.shown fits is

kept_next : (old new : SignState) → ShowsGoodTexts old → new.config ≡ old.config → (new.shown_at_power_loss ≡ old.shown_at_power_loss) ⊎ (new.shown_at_power_loss ≡ old.shown) → CanBeDrawn new.config.face new.shown_at_power_loss
kept_next old new was same (inl e) =
    subst (CanBeDrawn new.config.face) (sym e) (drawn_still old.config new.config old.shown_at_power_loss same was.shown_at_power_loss)
kept_next old new was same (inr e) =
    subst (CanBeDrawn new.config.face) (sym e) (drawn_still old.config new.config old.shown same was.shown)

good_next : (old new : SignState) (accepted : Option Activation) → IsSignStep old new accepted → HasFitDefaults new → ShowsGoodTexts old → ShowsGoodTexts new
good_next old new accepted step fits was = record {
  own = fits;
  shown = shown_next old new accepted was fits step.config step.shown;
  shown_at_power_loss = kept_next old new was step.config step.shown_at_power_loss;
}

-- ---- lines

good_tick : (s : SignState) → ShowsGoodTexts s → ShowsGoodTexts (after_tick s)
good_tick s was = good_next s _ _ (step_tick s) (tick_fits s was.own) was

good_ticks : (seconds : ℕ) (s : SignState) → ShowsGoodTexts s → ShowsGoodTexts (after_ticks seconds s)
unfolding after_ticks
good_ticks zero s was = was
good_ticks (suc seconds) s was = good_tick (after_ticks seconds s) (good_ticks seconds s was)

good_awake : (powered : Bool) (s : SignState) → ShowsGoodTexts s → ShowsGoodTexts (cond powered (awake s) s)
good_awake true s was = record { own = was.own; shown = was.shown; shown_at_power_loss = was.shown_at_power_loss }
good_awake false s was = was

good_call : (s : SignState) (call : SignCall) → ShowsGoodTexts s → ShowsGoodTexts (after_call s call)
good_call s (datagram octets) was = good_next s _ _ (step_received s octets) (received_fits s octets was.own) was
good_call s tick was = good_tick s was
good_call s (ticks seconds) was = good_ticks seconds s was
good_call s heard was = good_awake s.powered s was
good_call s power_lost was = good_next s _ _ (step_power_loss s) (power_loss_fits s was.own) was
good_call s (power_back seconds) was = good_next s _ _ (step_power_return s seconds) (power_return_fits s seconds was.own) was
good_call s show was = was
good_call s state was = was
good_call s save was = was

good_if : (s : SignState) (call : Option SignCall) → ShowsGoodTexts s → ShowsGoodTexts (after_if s call)
good_if s None was = was
good_if s (Some call) was = good_call s call was

pub good_after_line : (s : SignState) (line : List ℕ) → ShowsGoodTexts s → ShowsGoodTexts (after_line s line)
good_after_line s line was = good_if s (call_of line) was

-- ---- pages

pub good_is_drawn : (s : SignState) → ShowsGoodTexts s → drawn_text (under s.config.face s.shown.defaults) s.shown.text ≡ Ok (shown_pages s)
good_is_drawn s is =
    let face = under s.config.face s.shown.defaults in
    let pages = map (drawn face) (pages_of face s.shown.text) in
    let none : fault_of face s.shown.text ≡ None = (faultless_law face s.shown.text).1 is.shown.text in
    let drawn : drawn_text face s.shown.text ≡ Ok pages = ap (or_fault pages) none in
    let shown : shown_pages s ≡ pages_or_none (drawn_text face s.shown.text) =
    ap (λ b. cond b (pages_or_none (drawn_text face s.shown.text)) []) is.shown.defaults in
    drawn ∙ ap Ok (sym (shown ∙ ap pages_or_none drawn))
