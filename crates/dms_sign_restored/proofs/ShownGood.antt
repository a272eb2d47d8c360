-- What is taken up of a text can be shown.
use Rattle.std.proofs.Common.{◌≡◌, inl, inr, ◌⊎◌, ℕ, zero, suc, ◌+◌, ◌==◌, ◌&&◌, ◌||◌, Bool, true, false, not, cond, List, [], ◌∷◌, length, Option, Some, None, Result, Ok, Err, refl, ap, sym, subst, ◌∙◌, arith}
use Rattle.std.specs.Prelude.{option_map}
use Rattle.std.specs.Option.{option_or}
use Rattle.std.proofs.lemmas.Bool.{eqb-true, eq-eqb}
use Rattle.dms_codes.specs.Checksum.{message_checksum}
use Rattle.dms_codes.specs.Memory.{blank_memory}
use Rattle.dms_face.specs.Face.{FaceModel, fit}
use Rattle.dms_face.specs.Layout.{under}
use Rattle.dms_face.specs.Fit.{fault_of}
use Rattle.dms_face.proofs.GoodLaws.{faultless_law}
use Rattle.dms_table.specs.Rows.{TableModel}
use Rattle.dms_table.specs.Activation.{ShownModel, shown_row}
use Rattle.dms_table.specs.SavedShown as saved
use Rattle.dms_table.specs.Validation.{IsShowable}
use Rattle.dms_sign.specs.declared.config.Config.{Config}
use Rattle.dms_sign.specs.declared.sign.restoring.SignParts.{SignParts}
use Rattle.dms_sign_access.specs.declared.restoring.MessageFault.TheVariants as messages
use Rattle.dms_sign_access.specs.declared.restoring.StateFault.{StateFault}
use Rattle.dms_sign_access.specs.declared.restoring.StateFault.TheVariants as faults
use Rattle.dms_sign.specs.State.{SignState}
use Rattle.dms_sign.specs.Restoring.{with_parts, names_a_row, standing_fault, message_fault, set_fault, told_fault, parts_fault}
use Rattle.dms_sign_state.specs.declared.field.Stored.TheVariants.{Changeable, Volatile}
use Rattle.dms_sign_state.specs.Fields.{FieldsModel}
use Rattle.dms_sign_restored.specs.declared.restoring.Misfit.{Misfit}
use Rattle.dms_sign_restored.specs.Restored.{parts_of, and_then, unless_misfit, part_misfit, with_rows, with_rest, with_fields, IsPut, IsRestored}
use Rattle.dms_sign_restored.specs.Showing.{IsBlankMessage, IsGoodMessage, CanStand, ShowsWhatIsGood}

-- ---- where none of several faults is there, each is not there

neither_is : {A : Type 0} (a b : Option A) → option_or a b ≡ None → (a ≡ None) × (b ≡ None)
neither_is None b e = (refl, e)
neither_is (Some x) b e = absurd (cc)

none_mapped : {A B : Type 0} (f : A → B) (o : Option A) → option_map f o ≡ None → o ≡ None
none_mapped f None e = refl
none_mapped f (Some x) e = absurd (cc)

holds_next : {A : Type 0} (b : Bool) (x : A) (o : Option A) → cond (not b) (Some x) o ≡ None → (b ≡ true) × (o ≡ None)
holds_next true x o e = (refl, e)
holds_next false x o e = absurd (cc)

lacks_next : {A : Type 0} (b : Bool) (x : A) (o : Option A) → cond b (Some x) o ≡ None → (b ≡ false) × (o ≡ None)
lacks_next false x o e = (refl, e)
lacks_next true x o e = absurd (cc)

both_hold : (a b : Bool) → (a && b) ≡ true → (a ≡ true) × (b ≡ true)
both_hold true b e = (refl, e)
both_hold false b e = absurd (cc)

other_holds : (a b : Bool) → (a || b) ≡ true → a ≡ false → b ≡ true
other_holds false b e is = e
other_holds true b e is = absurd (cc)

implied : (a b : Bool) → (not a || b) ≡ true → a ≡ true → b ≡ true
implied true b e is = e
implied false b e is = absurd (cc)

has_it : (on has : Bool) → (on && not has) ≡ false → on ≡ true → has ≡ true
has_it true true e is = refl
has_it true false e is = absurd (cc)
has_it false has e is = absurd (cc)

nothing_in : {A : Type 0} (xs : List A) → (length xs == 0) ≡ true → xs ≡ []
nothing_in [] e = refl
nothing_in (x ∷ xs) e = let none = eqb-true (length (x ∷ xs)) 0 e in absurd (omega (arith, none))

-- ---- a message

record NoFault (table : TableModel) (face : FaceModel) (shown : ShownModel) : Type 0 where
  checksum : saved.has_its_checksum shown ≡ true
  blank : saved.is_blank_by_its_source shown ≡ true
  beacon : (shown.beacon == 1 && not table.services.beacon) ≡ false
  pixel : (shown.pixel == 1 && not table.services.pixel) ≡ false
  text : fault_of (under face shown.defaults) shown.text ≡ None

no_fault : (table : TableModel) (face : FaceModel) (shown : ShownModel) → message_fault table face shown ≡ None → NoFault table face shown
no_fault table face shown none =
    let parts = neither_is (option_map messages.Shown (saved.shown_fault shown)) (standing_fault table face shown) none in
    let how = (neither_is (saved.message_fault shown) (saved.showing_fault shown) (none_mapped messages.Shown (saved.shown_fault shown) parts.0)).1 in
    let checksum = holds_next (saved.has_its_checksum shown) _ _ how in
    let blank = holds_next (saved.is_blank_by_its_source shown) _ _ checksum.1 in
    let named = holds_next (names_a_row table shown.source) _ _ parts.1 in
    let beacon = lacks_next (shown.beacon == 1 && not table.services.beacon) _ _ named.1 in
    let pixel = lacks_next (shown.pixel == 1 && not table.services.pixel) _ _ beacon.1 in
    let fits = holds_next (fit face.fonts shown.defaults) _ _ pixel.1 in
    record {
      checksum = checksum.0;
      blank = blank.0;
      beacon = beacon.0;
      pixel = pixel.0;
      text = none_mapped messages.Text (fault_of (under face shown.defaults) shown.text) fits.1;
    }

blank_message : (shown : ShownModel) → (shown.source.memory == blank_memory) ≡ true → saved.is_blank_by_its_source shown ≡ true → IsBlankMessage shown
blank_message shown memory e =
    let is = implied (shown.source.memory == blank_memory) (saved.is_blank_of shown.source.number shown) e memory in
    let four = both_hold (length shown.text == 0 && length shown.owner == 0 && shown.beacon == 0 && shown.pixel == 0) (shown.priority == shown.source.number) is in
    let three = both_hold (length shown.text == 0 && length shown.owner == 0 && shown.beacon == 0) (shown.pixel == 0) four.0 in
    let two = both_hold (length shown.text == 0 && length shown.owner == 0) (shown.beacon == 0) three.0 in
    let one = both_hold (length shown.text == 0) (length shown.owner == 0) two.0 in
    record {
      memory = eqb-true shown.source.memory blank_memory memory;
      text = nothing_in shown.text one.0;
      beacon = eqb-true shown.beacon 0 two.1;
      pixel = eqb-true shown.pixel 0 three.1;
    }

good_message : (s : SignState) (shown : ShownModel) → NoFault s.table s.config.face shown → (shown.source.memory == blank_memory) ≡ false → IsGoodMessage s shown
good_message s shown is memory = record {
  good = record {
    good = (faultless_law (under s.config.face shown.defaults) shown.text).0 is.text;
    has_beacon = λ on. has_it (shown.beacon == 1) s.table.services.beacon is.beacon (eq-eqb shown.beacon 1 on);
    has_pixel = λ on. has_it (shown.pixel == 1) s.table.services.pixel is.pixel (eq-eqb shown.pixel 1 on);
  };
  checksum = eqb-true (message_checksum shown.text shown.beacon shown.pixel) shown.source.crc
      (other_holds (shown.source.memory == blank_memory) (message_checksum shown.text shown.beacon shown.pixel == shown.source.crc) is.checksum memory);
}

by_source : (is_blank : Bool) (s : SignState) (shown : ShownModel) → (shown.source.memory == blank_memory) ≡ is_blank → NoFault s.table s.config.face shown → CanStand s shown
by_source true s shown memory is = inl (blank_message shown memory is.blank)
by_source false s shown memory is = inr (good_message s shown is memory)

can_stand : (s : SignState) (shown : ShownModel) → message_fault s.table s.config.face shown ≡ None → CanStand s shown
can_stand s shown none = by_source (shown.source.memory == blank_memory) s shown refl (no_fault s.table s.config.face shown none)

-- ---- the parts, and the sign that they are taken up in

parts_stand : (s : SignState) (parts : SignParts) → parts_fault s parts ≡ None → ShowsWhatIsGood (with_parts s parts)
parts_stand s parts none =
    let face = s.config.face in
    let set = neither_is (set_fault face parts.settings parts.silent_seconds) _ none in
    let shown = neither_is (option_map faults.Shown (message_fault s.table face parts.shown)) _ set.1 in
    let kept = neither_is (option_map faults.Kept (message_fault s.table face parts.shown_at_power_loss)) (told_fault parts) shown.1 in
    record {
      shown = can_stand (with_parts s parts) parts.shown (none_mapped faults.Shown (message_fault s.table face parts.shown) shown.0);
      kept = can_stand (with_parts s parts) parts.shown_at_power_loss (none_mapped faults.Kept (message_fault s.table face parts.shown_at_power_loss) kept.0);
    }

-- what an answer that is no misfit is made of
first_of : (r : Result SignState Misfit) (next : SignState → Result SignState Misfit) (s : SignState) → and_then r next ≡ Ok s
    → (t : SignState) × (next t ≡ Ok s)
first_of (Ok t) next s e = (t, e)
first_of (Err misfit) next s e = absurd (cc)

record IsTakenUp (s t : SignState) (fault : Option StateFault) (taken : SignState) : Type 0 where
  none : fault ≡ None
  same : s ≡ taken

taken_if : (f : FieldsModel) (s t taken : SignState) (fault : Option StateFault) → unless_misfit taken (option_map (part_misfit f) fault) ≡ Ok s → IsTakenUp s t fault taken
taken_if f s t taken None e = record { none = refl; same = let same : Ok taken ≡ Ok s = e in cc }
taken_if f s t taken (Some fault) e = absurd (cc)

rest_stands : (f : FieldsModel) (t s : SignState) → with_rest f t ≡ Ok s → ShowsWhatIsGood s
rest_stands f t s e =
    let parts = parts_of t.table.order f in
    let is = taken_if f s t (with_parts t parts) (parts_fault t parts) e in
    subst (λ (s : SignState). ShowsWhatIsGood s) (sym is.same) (parts_stand t parts is.none)

fields_stand : (f : FieldsModel) (sign s : SignState) → with_fields f sign ≡ Ok s → ShowsWhatIsGood s
unfolding with_fields
fields_stand f sign s e =
    let changeable = first_of (with_rows Changeable 2 f.changeable sign) (λ s. and_then (with_rows Volatile (2 + length f.changeable) f.volatile s) (with_rest f)) s e in
    let volatile = first_of (with_rows Volatile (2 + length f.changeable) f.volatile changeable.0) (with_rest f) s changeable.1 in
    rest_stands f volatile.0 s volatile.1

pub put_shows_what_is_good : (sign : SignState) (text : List ℕ) (s : SignState) → IsPut sign text s → ShowsWhatIsGood s
put_shows_what_is_good sign text s is = fields_stand is.fields sign s is.taken_up

pub restored_shows_what_is_good : (config : Config) (text : List ℕ) (s : SignState) → IsRestored config text s → ShowsWhatIsGood s
restored_shows_what_is_good config text s is = fields_stand is.state.fields _ s is.state.taken_up
