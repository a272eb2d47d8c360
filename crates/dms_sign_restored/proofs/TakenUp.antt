-- A sign that can show its messages, and reports what signs report, can be taken up.
use Rattle.std.proofs.Common.{◌≡◌, ℕ, suc, ◌+◌, ◌-◌, ◌*◌, ◌==◌, ◌&&◌, ◌||◌, Bool, true, false, not, cond, List, [], ◌∷◌, length, Option, Some, None, slice_get, refl, ap, ◌∙◌, arith}
use Rattle.std.specs.Prelude.{option_map, nat_le}
use Rattle.std.specs.Option.{option_or}
use Rattle.std.specs.List.{AllByRecursion}
use Rattle.std.proofs.lemmas.Bool.{le-leb, and_from}
use Rattle.std.proofs.lemmas.List.Elements.{recursion_from_All}
use Rattle.dms_codes.specs.declared.status.Status.TheVariants.{Valid}
use Rattle.dms_codes.specs.Limits.{longest_text, longest_owner}
use Rattle.dms_codes.specs.Memory.{changeable_memory, volatile_memory}
use Rattle.dms_codes.specs.Status.{is_not_used, is_valid}
use Rattle.dms_face.specs.Face.{FaceModel, fit}
use Rattle.dms_table.specs.declared.row.Services.{Services}
use Rattle.dms_table.specs.Rows.{RowModel, TableModel, Text, Owner, Beacon, Pixel, Priority, is_in_range, IsTable}
use Rattle.dms_table.specs.Activation.{ShownModel, shown_row}
use Rattle.dms_table.specs.SavedRows.{IsEmptyWhereUnused, AreEmptyWhereUnused, is_served, may_have_beacon, may_have_pixel, value_fault}
use Rattle.dms_table.specs.SavedShown as saved
use Rattle.dms_table.proofs.KnownTexts.{valid_status}
use Rattle.dms_sign_access.specs.declared.reports.Reports.{Reports}
use Rattle.dms_sign_access.specs.Reports.{is_validation_error, is_activation_error, is_syntax_error, is_place_of, report_fault}
use Rattle.dms_sign_access.specs.declared.restoring.MessageFault.TheVariants as messages
use Rattle.dms_sign_access.specs.declared.restoring.StateFault.TheVariants as faults
use Rattle.dms_sign.specs.State.{SignState, power_loss_mode}
use Rattle.dms_sign.specs.InRange.{most_minutes, IsRowInRange, IsSignInRange}
use Rattle.dms_sign.specs.Restoring.{names_a_row, standing_fault, message_fault, set_fault, told_fault, parts_fault}
use Rattle.dms_sign.specs.Transitions.{HasFitDefaults}
use Rattle.dms_sign_restored.proofs.PutBack.{number_is, IsStored, parts_in, CanBeTakenUp}
use Rattle.dms_sign_restored.proofs.PutUps.{AreReported, IsPutUp}
use Rattle.dms_sign_restored.proofs.Standing.{IsServed, AreServed, IsStanding}

-- ---- no fault, and none after it

next : {A : Type 0} (b : Bool) (x : A) (o : Option A) → b ≡ true → o ≡ None → cond (not b) (Some x) o ≡ None
next b x o e none = ap (λ b. cond (not b) (Some x) o) e ∙ none

unless : {A : Type 0} (b : Bool) (x : A) (o : Option A) → b ≡ false → o ≡ None → cond b (Some x) o ≡ None
unless b x o e none = ap (λ b. cond b (Some x) o) e ∙ none

neither : {A : Type 0} (a b : Option A) → a ≡ None → b ≡ None → option_or a b ≡ None
neither a b e none = ap (λ a. option_or a b) e ∙ none

-- ---- rows

served_by : (valid on has : Bool) → (valid ≡ true → (on && not has) ≡ false) → (has || not (valid && on)) ≡ true
served_by valid on true each = refl
served_by true true false each = let wrong = each refl in absurd (cc)
served_by true false false each = refl
served_by false on false each = refl

priority_in : (row : RowModel) → IsRowInRange row → is_in_range (Priority row.priority) ≡ true
priority_in row is = and_from (nat_le 1 row.priority) (nat_le row.priority 255) (le-leb 1 row.priority is.least) (le-leb row.priority 255 is.priority)

row_faultless : (services : Services) (row : RowModel) → IsRowInRange row → (row.status ≡ Valid → IsServed services row.beacon row.pixel)
    → is_not_used row.status ≡ false → value_fault services row ≡ None
row_faultless services row is served used =
    let valid = valid_status row.status in
    unless (is_not_used row.status) _ _ used
    (next (is_in_range (Text row.text)) _ _ (le-leb (length row.text) longest_text is.text.size)
    (next (is_in_range (Owner row.owner)) _ _ (le-leb (length row.owner) longest_owner is.owner.size)
    (next (may_have_beacon services row) _ _
    (and_from (is_in_range (Beacon row.beacon)) (is_served row.status services.beacon row.beacon) (le-leb row.beacon 1 is.beacon)
    (served_by (is_valid row.status) (row.beacon == 1) services.beacon (λ e. (served (valid e)).has_beacon)))
    (next (may_have_pixel services row) _ _
    (and_from (is_in_range (Pixel row.pixel)) (is_served row.status services.pixel row.pixel) (le-leb row.pixel 1 is.pixel)
    (served_by (is_valid row.status) (row.pixel == 1) services.pixel (λ e. (served (valid e)).has_pixel)))
    (next (is_in_range (Priority row.priority)) _ _ (priority_in row is) refl)))))

all_stored : (services : Services) (rows : List RowModel) → AllByRecursion IsRowInRange rows → AllByRecursion IsEmptyWhereUnused rows
    → ((k : ℕ) (row : RowModel) → slice_get rows k ≡ Some row → row.status ≡ Valid → IsServed services row.beacon row.pixel)
    → AllByRecursion (IsStored services) rows
all_stored services [] is empty served = tt
all_stored services (row ∷ rows) is empty served = (
  record { empty = empty.0; good = row_faultless services row is.0 (served 0 row refl) },
  all_stored services rows is.1 empty.1 (λ k other e. served (suc k) other e),
)

-- the row of an index, by its number
at_index : (rows : List RowModel) (k : ℕ) (row : RowModel) → slice_get rows k ≡ Some row → cond (k + 1 == 0) None (slice_get rows (k + 1 - 1)) ≡ Some row
at_index rows k row e =
    let same : k + 1 - 1 ≡ k = omega arith in
    number_is (k + 1 == 0) rows (k + 1) row refl (omega arith) (ap (slice_get rows) same ∙ e)

-- ---- a message

message_faultless : (shown : ShownModel) → IsRowInRange (shown_row shown) → saved.message_fault shown ≡ None
message_faultless shown is =
    next (is_in_range (Text shown.text)) _ _ (le-leb (length shown.text) longest_text is.text.size)
    (next (is_in_range (Owner shown.owner)) _ _ (le-leb (length shown.owner) longest_owner is.owner.size)
    (next (is_in_range (Beacon shown.beacon)) _ _ (le-leb shown.beacon 1 is.beacon)
    (next (is_in_range (Pixel shown.pixel)) _ _ (le-leb shown.pixel 1 is.pixel)
    (next (is_in_range (Priority shown.priority)) _ _ (priority_in (shown_row shown) is) refl))))

showing_faultless : (powered : Bool) (shown : ShownModel) → saved.has_its_checksum shown ≡ true → IsPutUp powered shown → saved.showing_fault shown ≡ None
showing_faultless powered shown checksum is =
    next (saved.has_its_checksum shown) _ _ checksum
    (next (saved.is_blank_by_its_source shown) _ _ is.by_source
    (next (saved.is_mode shown.mode) _ _ is.mode (next (saved.is_time shown.mode shown.remaining) _ _ is.time refl)))

standing_faultless : (face : FaceModel) (table : TableModel) (shown : ShownModel) → IsStanding face table shown → standing_fault table face shown ≡ None
standing_faultless face table shown is =
    next (names_a_row table shown.source) _ _ is.named
    (unless (shown.beacon == 1 && not table.services.beacon) _ _ is.served.has_beacon
    (unless (shown.pixel == 1 && not table.services.pixel) _ _ is.served.has_pixel
    (next (fit face.fonts shown.defaults) _ _ is.fits (ap (option_map messages.Text) is.good))))

shown_faultless : (powered : Bool) (face : FaceModel) (table : TableModel) (shown : ShownModel) → IsRowInRange (shown_row shown) → IsPutUp powered shown
    → IsStanding face table shown → message_fault table face shown ≡ None
shown_faultless powered face table shown row up is =
    neither (option_map messages.Shown (saved.shown_fault shown)) (standing_fault table face shown)
    (ap (option_map messages.Shown)
    (neither (saved.message_fault shown) (saved.showing_fault shown) (message_faultless shown row) (showing_faultless powered shown is.checksum up)))
    (standing_faultless face table shown is)

-- ---- the parts

reports_faultless : (reports : Reports) → AreReported reports → report_fault reports ≡ None
reports_faultless reports are =
    next (is_validation_error reports.validate_error) _ _ are.validate
    (next (is_activation_error reports.activate_error) _ _ are.activate
    (next (is_syntax_error reports.syntax_error) _ _ are.syntax_told
    (next (is_place_of reports.syntax_error reports.syntax_error_position) _ _ are.place refl)))

power_by : (powered lost kept : Bool) → lost ≡ not powered → kept ≡ false → (cond powered (not lost) lost && not kept) ≡ true
power_by true lost kept is other = and_from (not lost) (not kept) (ap not is) (ap not other)
power_by false lost kept is other = and_from lost (not kept) is (ap not other)

-- what is known of a sign
pub record IsFaultless (s : SignState) : Type 0 where
  pub in_range : IsSignInRange s
  pub fits : HasFitDefaults s
  pub one : IsTable s.table
  pub changeable_empty : AreEmptyWhereUnused s.table.changeable
  pub volatile_empty : AreEmptyWhereUnused s.table.volatile
  pub served : AreServed s.table
  pub up : IsPutUp s.powered s.shown
  pub up_at_power_loss : IsPutUp true s.shown_at_power_loss
  pub shown : IsStanding s.config.face s.table s.shown
  pub kept : IsStanding s.config.face s.table s.shown_at_power_loss
  pub reports : AreReported s.reports

told_faultless : (s : SignState) → IsFaultless s → told_fault (parts_in s) ≡ None
told_faultless s is =
    neither (option_map faults.Reports (report_fault s.reports)) _ (ap (option_map faults.Reports) (reports_faultless s.reports is.reports))
    (ap (λ b. cond b None (Some faults.Power))
    (power_by s.powered (s.shown.mode == power_loss_mode) (s.shown_at_power_loss.mode == power_loss_mode) is.up.power is.up_at_power_loss.power))

parts_faultless : (s : SignState) → IsFaultless s → parts_fault s (parts_in s) ≡ None
parts_faultless s is =
    let face = s.config.face in
    neither (set_fault face s.settings s.silent_seconds) _
    (next (fit face.fonts s.settings.defaults) _ _ is.fits
    (next (nat_le s.silent_seconds (60 * most_minutes)) _ _ (le-leb s.silent_seconds (60 * most_minutes) is.in_range.silent_seconds) refl))
    (neither (option_map faults.Shown (message_fault s.table face s.shown)) _
    (ap (option_map faults.Shown) (shown_faultless s.powered face s.table s.shown is.in_range.shown.row is.up is.shown))
    (neither (option_map faults.Kept (message_fault s.table face s.shown_at_power_loss)) (told_fault (parts_in s))
    (ap (option_map faults.Kept) (shown_faultless true face s.table s.shown_at_power_loss is.in_range.shown_at_power_loss.row is.up_at_power_loss is.kept))
    (told_faultless s is)))

pub can_be_taken_up : (s : SignState) → IsFaultless s → CanBeTakenUp s
can_be_taken_up s is = record {
  one = is.one;
  changeable =
      all_stored s.table.services s.table.changeable is.in_range.table.changeable
      (recursion_from_All IsEmptyWhereUnused s.table.changeable is.changeable_empty)
      (λ k row e. is.served changeable_memory (k + 1) row (at_index s.table.changeable k row e));
  volatile =
      all_stored s.table.services s.table.volatile is.in_range.table.volatile
      (recursion_from_All IsEmptyWhereUnused s.table.volatile is.volatile_empty)
      (λ k row e. is.served volatile_memory (k + 1) row (at_index s.table.volatile k row e));
  shown = is.in_range.shown.source;
  kept = is.in_range.shown_at_power_loss.source;
  parts = parts_faultless s is;
}
