-- A message that is shown, or was, is one that a sign with these rows can show.
use Rattle.std.proofs.Common.{◌≡◌, inl, inr, ◌⊎◌, ℕ, zero, suc, ◌-◌, ◌≤◌, ◌==◌, ◌&&◌, ◌||◌, Bool, true, false, not, cond, List, [], ◌∷◌, length, Option, Some, None, slice_get, is_some, refl, ap, sym, subst, ◌∙◌, arith}
use Rattle.std.specs.Prelude.{option_map, nat_le}
use Rattle.std.proofs.lemmas.Bool.{eqb-true, eq-eqb, le-leb, and_from}
use Rattle.dms_codes.specs.declared.codes.MessageId.{MessageId}
use Rattle.dms_codes.specs.declared.codes.Activation.{Activation}
use Rattle.dms_codes.specs.declared.memory.Memory.{Memory}
use Rattle.dms_codes.specs.declared.memory.Memory.TheVariants.{Permanent, Changeable, Volatile, CurrentBuffer, Blank}
use Rattle.dms_codes.specs.declared.status.Status.TheVariants.{Valid}
use Rattle.dms_codes.specs.Checksum.{message_checksum}
use Rattle.dms_codes.specs.Memory.{memory_of, blank_memory}
use Rattle.dms_codes.proofs.Options.{is_some_mapped}
use Rattle.dms_face.specs.declared.defaults.Defaults.{Defaults}
use Rattle.dms_face.specs.Face.{FaceModel, fit}
use Rattle.dms_face.specs.Fit.{IsGood, fault_of}
use Rattle.dms_face.specs.Layout.{under}
use Rattle.dms_face.proofs.GoodLaws.{empty_is_good, faultless_law}
use Rattle.dms_table.specs.declared.row.Services.{Services}
use Rattle.dms_table.specs.Rows.{RowModel, TableModel, blank_reading, reading, blank, blank_at, numbered, rows_by, rows_of}
use Rattle.dms_table.specs.Activation.{ShownModel, shown_row}
use Rattle.dms_table.specs.SavedShown.{has_its_checksum}
use Rattle.dms_table.specs.Validation.{IsShowable, CameToBeValid, was_valid, was_settled}
use Rattle.dms_table.proofs.Memories.{no_blank_rows}
use Rattle.dms_sign.specs.State.{ConfigModel, SignState}
use Rattle.dms_sign.specs.InRange.{IsRowInRange}
use Rattle.dms_sign.specs.Restoring.{names_a_row}
use Rattle.dms_sign.specs.Transitions.{TableStep, IsSameMessage, IsBlankedUnder, IsRowOf, ShowsNow, stayed, came_back, blanked, activated, fell_back, HasFitDefaults}
use Rattle.dms_sign_restored.proofs.PutUps.{IsBlankBySource}

-- ---- what is on is there

pub record IsServed (services : Services) (beacon pixel : ℕ) : Type 0 where
  pub has_beacon : (beacon == 1 && not services.beacon) ≡ false
  pub has_pixel : (pixel == 1 && not services.pixel) ≡ false

none_lacks : (b has : Bool) → (b ≡ true → has ≡ true) → (b && not has) ≡ false
none_lacks true has each = ap not (each refl)
none_lacks false has each = refl

showable_served : (services : Services) (face : FaceModel) (row : RowModel) → IsShowable services face row → IsServed services row.beacon row.pixel
showable_served services face row is = record {
  has_beacon = none_lacks (row.beacon == 1) services.beacon (λ e. is.has_beacon (eqb-true row.beacon 1 e));
  has_pixel = none_lacks (row.pixel == 1) services.pixel (λ e. is.has_pixel (eqb-true row.pixel 1 e));
}

-- each valid row
abbrev pub AreServed : TableModel → Type 0
AreServed table = (memory number : ℕ) (row : RowModel) → numbered (rows_of table memory) number ≡ Some row → row.status ≡ Valid
    → IsServed table.services row.beacon row.pixel

came_served : (face : FaceModel) (table : TableModel) (memory number : ℕ) (row : RowModel) → row.status ≡ Valid → AreServed table
    → CameToBeValid table.services face (numbered (rows_of table memory) number) row → IsServed table.services row.beacon row.pixel
came_served face table memory number row valid served (was_valid e) = served memory number row e valid
came_served face table memory number row valid served (was_settled e showable) = showable_served table.services face row showable

pub served_next : (face : FaceModel) (old new : TableModel) → TableStep face old new → AreServed old → AreServed new
served_next face old new step served = λ memory number row there valid.
    subst (λ (services : Services). IsServed services row.beacon row.pixel) (sym step.services)
    (came_served face old memory number row valid served (step.rows memory number row there valid))

-- ---- there is a row of a name

same_there : (xs ys : List RowModel) (i : ℕ) → length xs ≡ length ys → is_some (slice_get xs i) ≡ is_some (slice_get ys i)
same_there [] [] i size = refl
same_there [] (y ∷ ys) i size = absurd (omega (arith, size))
same_there (x ∷ xs) [] i size = absurd (omega (arith, size))
same_there (x ∷ xs) (y ∷ ys) zero size = refl
same_there (x ∷ xs) (y ∷ ys) (suc i) size = same_there xs ys i (omega (arith, size))

number_there : (none : Bool) (xs ys : List RowModel) (i : ℕ) → length xs ≡ length ys
    → is_some (cond none None (slice_get xs i)) ≡ is_some (cond none None (slice_get ys i))
number_there true xs ys i size = refl
number_there false xs ys i size = same_there xs ys i size

-- a table with as many rows
pub record IsAsLong (old new : TableModel) : Type 0 where
  pub permanent_count : length old.permanent ≡ length new.permanent
  pub changeable_count : length old.changeable ≡ length new.changeable
  pub volatile_count : length old.volatile ≡ length new.volatile

as_long_by : (old new : TableModel) (memory : Option Memory) → IsAsLong old new → length (rows_by old memory) ≡ length (rows_by new memory)
as_long_by old new (Some Permanent) is = is.permanent_count
as_long_by old new (Some Changeable) is = is.changeable_count
as_long_by old new (Some Volatile) is = is.volatile_count
as_long_by old new (Some CurrentBuffer) is = refl
as_long_by old new (Some Blank) is = refl
as_long_by old new None is = refl

named_by : (is_blank : Bool) (old new : TableModel) (memory number : ℕ) → IsAsLong old new
    → is_some (cond is_blank (option_map blank_reading (blank_at number)) (option_map reading (numbered (rows_of old memory) number)))
    ≡ is_some (cond is_blank (option_map blank_reading (blank_at number)) (option_map reading (numbered (rows_of new memory) number)))
named_by true old new memory number is = refl
named_by false old new memory number is =
    is_some_mapped reading (numbered (rows_of old memory) number)
    ∙ number_there (number == 0) (rows_of old memory) (rows_of new memory) (number - 1) (as_long_by old new (memory_of memory) is)
    ∙ sym (is_some_mapped reading (numbered (rows_of new memory) number))

named_still : (old new : TableModel) (id : MessageId) → IsAsLong old new → names_a_row old id ≡ true → names_a_row new id ≡ true
named_still old new id is e = sym (named_by (id.memory == blank_memory) old new id.memory id.number is) ∙ e

nowhere : (none : Bool) (i : ℕ) (row : RowModel) → cond none None (slice_get [] i) ≡ Some row → ⊥
nowhere true i row e = absurd (cc)
nowhere false i row e = absurd (cc)

row_named_by : (is_blank : Bool) (table : TableModel) (memory number : ℕ) (row : RowModel) → (memory == blank_memory) ≡ is_blank
    → numbered (rows_of table memory) number ≡ Some row
    → is_some (cond is_blank (option_map blank_reading (blank_at number)) (option_map reading (numbered (rows_of table memory) number))) ≡ true
row_named_by true table memory number row is there =
    absurd (nowhere (number == 0) (number - 1) row (ap (λ rows. numbered rows number) (sym (no_blank_rows table memory is)) ∙ there))
row_named_by false table memory number row is there = ap (λ o. is_some (option_map reading o)) there

row_named : (table : TableModel) (id : MessageId) (row : RowModel) → numbered (rows_of table id.memory) id.number ≡ Some row → names_a_row table id ≡ true
row_named table id row there = row_named_by (id.memory == blank_memory) table id.memory id.number row refl there

-- what a blank message is by its source: its priority is its number
blank_number : (shown : ShownModel) → (shown.source.memory == blank_memory) ≡ true → IsBlankBySource shown → shown.priority ≡ shown.source.number
blank_number shown memory is =
    eqb-true shown.priority shown.source.number
    (by_number (shown.source.memory == blank_memory) (length shown.text == 0 && length shown.owner == 0 && shown.beacon == 0 && shown.pixel == 0)
    (shown.priority == shown.source.number) memory is)
  where
    by_number : (is_blank a b : Bool) → is_blank ≡ true → (not is_blank || a && b) ≡ true → b ≡ true
    by_number is_blank a b memory e = grind arith

numbers_blank : (number : ℕ) → 1 ≤ number → number ≤ 255 → is_some (option_map blank_reading (blank_at number)) ≡ true
numbers_blank number least most =
    ap (λ b. is_some (option_map blank_reading (cond b (Some (blank number)) None)))
    (and_from (nat_le 1 number) (nat_le number 255) (le-leb 1 number least) (le-leb number 255 most))

blank_named : (table : TableModel) (shown : ShownModel) → shown.source.memory ≡ blank_memory → IsBlankBySource shown → IsRowInRange (shown_row shown)
    → names_a_row table shown.source ≡ true
blank_named table shown memory is row =
    let blank_now : (shown.source.memory == blank_memory) ≡ true = eq-eqb shown.source.memory blank_memory memory in
    let number : shown.priority ≡ shown.source.number = blank_number shown blank_now is in
    ap (λ b. is_some (cond b (option_map blank_reading (blank_at shown.source.number)) (option_map reading (numbered (rows_of table shown.source.memory) shown.source.number))))
    blank_now
    ∙ numbers_blank shown.source.number (omega (arith, number, row.least)) (omega (arith, number, row.priority))

-- ---- a message that can be shown

pub record IsStanding (face : FaceModel) (table : TableModel) (shown : ShownModel) : Type 0 where
  pub named : names_a_row table shown.source ≡ true
  pub served : IsServed table.services shown.beacon shown.pixel
  pub fits : fit face.fonts shown.defaults ≡ true
  pub good : fault_of (under face shown.defaults) shown.text ≡ None
  pub checksum : has_its_checksum shown ≡ true

standing_as : (face : FaceModel) (table : TableModel) (a b : ShownModel) → IsSameMessage a b → IsStanding face table a → IsStanding face table b
standing_as face table a b same is = grind arith

-- with the rows and the face of a step after
standing_on : (old new : ConfigModel) (before table : TableModel) (shown : ShownModel) → new ≡ old → table.services ≡ before.services → IsAsLong before table
    → IsStanding old.face before shown → IsStanding new.face table shown
standing_on old new before table shown same services long is = record {
  named = named_still before table shown.source long is.named;
  served = subst (λ (services : Services). IsServed services shown.beacon shown.pixel) (sym services) is.served;
  fits = subst (λ (config : ConfigModel). fit config.face.fonts shown.defaults ≡ true) (sym same) is.fits;
  good = subst (λ (config : ConfigModel). fault_of (under config.face shown.defaults) shown.text ≡ None) (sym same) is.good;
  checksum = is.checksum;
}

pub no_fault_of : (face : FaceModel) (text : List ℕ) → IsGood face text → fault_of face text ≡ None
no_fault_of face text good = (faultless_law face text).1 good

standing_blank : (face : FaceModel) (defaults : Defaults) (table : TableModel) (shown : ShownModel) → fit face.fonts defaults ≡ true → IsBlankedUnder defaults shown
    → IsBlankBySource shown → IsRowInRange (shown_row shown) → IsStanding face table shown
standing_blank face defaults table shown fits is by_source row = record {
  named = blank_named table shown is.memory by_source row;
  served = record {
    has_beacon = ap (λ beacon. beacon == 1 && not table.services.beacon) is.beacon;
    has_pixel = ap (λ pixel. pixel == 1 && not table.services.pixel) is.pixel;
  };
  fits = ap (fit face.fonts) is.copied ∙ fits;
  good = ap (fault_of (under face shown.defaults)) is.text ∙ no_fault_of (under face shown.defaults) [] (empty_is_good (under face shown.defaults));
  checksum =
      ap (λ b. b || message_checksum shown.text shown.beacon shown.pixel == shown.source.crc) (eq-eqb shown.source.memory blank_memory is.memory);
}

either_true : (a b : Bool) → b ≡ true → (a || b) ≡ true
either_true true b e = refl
either_true false b e = e

standing_row : (face : FaceModel) (defaults : Defaults) (table : TableModel) (shown : ShownModel) → fit face.fonts defaults ≡ true → AreServed table
    → IsRowOf face defaults table shown → IsStanding face table shown
standing_row face defaults table shown fits served is = record {
  named = row_named table shown.source is.row is.there;
  served = subst (λ beacon. IsServed table.services beacon shown.pixel) is.beacon
      (subst (IsServed table.services is.row.beacon) is.pixel (served shown.source.memory shown.source.number is.row is.there is.valid));
  fits = ap (fit face.fonts) is.copied ∙ fits;
  good = no_fault_of (under face shown.defaults) shown.text
      (subst (λ (d : Defaults). IsGood (under face d) shown.text) (sym is.copied) is.good);
  checksum =
      either_true (shown.source.memory == blank_memory) (message_checksum shown.text shown.beacon shown.pixel == shown.source.crc)
      (eq-eqb (message_checksum shown.text shown.beacon shown.pixel) shown.source.crc is.checksum);
}

-- ---- a step

-- what is known of the sign after a step
pub record IsStepTo (old new : SignState) : Type 0 where
  pub config : new.config ≡ old.config
  pub services : new.table.services ≡ old.table.services
  pub long : IsAsLong old.table new.table
  pub served : AreServed new.table
  pub fits : HasFitDefaults new
  pub row : IsRowInRange (shown_row new.shown)
  pub by_source : IsBlankBySource new.shown

pub shown_next : (old new : SignState) (accepted : Option Activation) → IsStepTo old new → IsStanding old.config.face old.table old.shown
    → IsStanding old.config.face old.table old.shown_at_power_loss → ShowsNow old new accepted → IsStanding new.config.face new.table new.shown
shown_next old new accepted to shown kept (stayed same) =
    standing_as new.config.face new.table old.shown new.shown same
    (standing_on old.config new.config old.table new.table old.shown to.config to.services to.long shown)
shown_next old new accepted to shown kept (came_back same) =
    standing_as new.config.face new.table old.shown_at_power_loss new.shown same
    (standing_on old.config new.config old.table new.table old.shown_at_power_loss to.config to.services to.long kept)
shown_next old new accepted to shown kept (blanked is) =
    standing_blank new.config.face new.settings.defaults new.table new.shown to.fits is to.by_source to.row
shown_next old new accepted to shown kept (activated code e source is) =
    standing_row new.config.face new.settings.defaults new.table new.shown to.fits to.served is
shown_next old new accepted to shown kept (fell_back own is) =
    standing_row new.config.face new.settings.defaults new.table new.shown to.fits to.served is

pub kept_next : (old new : SignState) → IsStepTo old new → IsStanding old.config.face old.table old.shown
    → IsStanding old.config.face old.table old.shown_at_power_loss
    → (new.shown_at_power_loss ≡ old.shown_at_power_loss) ⊎ (new.shown_at_power_loss ≡ old.shown)
    → IsStanding new.config.face new.table new.shown_at_power_loss
kept_next old new to shown kept (inl e) =
    subst (IsStanding new.config.face new.table) (sym e)
    (standing_on old.config new.config old.table new.table old.shown_at_power_loss to.config to.services to.long kept)
kept_next old new to shown kept (inr e) =
    subst (IsStanding new.config.face new.table) (sym e)
    (standing_on old.config new.config old.table new.table old.shown to.config to.services to.long shown)
