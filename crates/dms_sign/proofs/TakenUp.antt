-- What a sign takes up of a saved state leaves it whole.
use Rattle.std.proofs.Common.{◌≡◌, ℕ, ◌*◌, ◌≤◌, ◌==◌, ◌&&◌, Bool, true, false, not, cond, List, length, Option, Some, None, nat_le, refl, ap, sym, subst, ◌∙◌, arith}
use Rattle.std.specs.Prelude.{IsTrue, option_map}
use Rattle.std.specs.Option.{option_or, IfSome}
use Rattle.std.specs.Int.Digits.{AllBelowBase}
use Rattle.std.proofs.lemmas.Option.{same_Some}
use Rattle.dms_codes.specs.declared.codes.Order.{Order}
use Rattle.dms_codes.specs.declared.memory.Memory.{Memory}
use Rattle.dms_codes.specs.Memory.{memory_of}
use Rattle.dms_codes.specs.Limits.{longest_text, longest_owner}
use Rattle.dms_codes.specs.Status.{is_not_used}
use Rattle.dms_codes.specs.Codes.{octets_of_id}
use Rattle.dms_codes.specs.declared.row_id.RowId.{RowId}
use Rattle.dms_face.specs.Face.{FaceModel, fit}
use Rattle.dms_table.specs.declared.row.Services.{Services}
use Rattle.dms_table.specs.Rows.{RowModel, TableModel, Text, Owner, Beacon, Pixel, Priority, is_in_range, changed_by, changed}
use Rattle.dms_table.specs.Activation.{ShownModel, shown_row}
use Rattle.dms_table.specs.SavedRows.{put_over, may_have_beacon, may_have_pixel, value_fault, row_fault}
use Rattle.dms_table.specs.SavedShown.{is_time, is_mode, has_its_checksum, is_blank_by_its_source, message_fault, showing_fault, shown_fault}
use Rattle.dms_sign_access.specs.Reports.{no_error, is_validation_error, is_activation_error, is_syntax_error, is_place_of, report_fault}
use Rattle.dms_sign.specs.declared.sign.Sign.TheInside.{Inside}
use Rattle.dms_sign.specs.declared.sign.restoring.SignParts.{SignParts}
use Rattle.dms_sign_access.specs.declared.restoring.MessageFault.TheVariants as messages
use Rattle.dms_sign_access.specs.declared.restoring.StateFault.TheVariants as faults
use Rattle.dms_sign.specs.InRange.{IsTimeInRange, IsRowInRange, IsTableInRange, IsShownInRange, AreSettingsInRange}
use Rattle.dms_sign.specs.declared.known_texts.KnownTexts.{KnownTexts}
use Rattle.dms_sign.specs.KnownTexts.{forgotten, AreKnown}
use Rattle.dms_sign.specs.Kept.{IsKept}
use Rattle.dms_sign.specs.State.{SignState}
use Rattle.dms_sign.specs.SignView.{state_of, IsWhole}
use Rattle.dms_sign.specs.Typed.{IsTyped, AreTyped}
use Rattle.dms_sign.specs.Restoring.{with_parts, parts_fault}
use Rattle.dms_sign.specs.Restoring as restoring
use Rattle.dms_sign.proofs.InRangeSets.{changed_table}
use Rattle.dms_sign.proofs.KnownTexts.{HasEntries}
use Rattle.dms_sign.proofs.PutRows.{known_put}

-- ---- the first of several faults is none

pub neither : {A : Type 0} (a b : Option A) → option_or a b ≡ None → (a ≡ None) × (b ≡ None)
neither None b e = (refl, e)
neither (Some x) b e = absurd (cc)

pub unmapped : {A B : Type 0} (f : A → B) (o : Option A) → option_map f o ≡ None → o ≡ None
unmapped f None e = refl
unmapped f (Some x) e = absurd (cc)

pub passed : {A : Type 0} (b : Bool) (x : A) (o : Option A) → cond (not b) (Some x) o ≡ None → (b ≡ true) × (o ≡ None)
passed true x o e = (refl, e)
passed false x o e = absurd (cc)

both : (a b : Bool) → (a && b) ≡ true → (a ≡ true) × (b ≡ true)
both true true e = (refl, refl)
both true false e = absurd (cc)
both false b e = absurd (cc)

-- ---- what is shown

time_in_range : (mode : ℕ) (o : Option ℕ) → is_time mode o ≡ true → IsTimeInRange o
time_in_range mode o is = grind arith

place_within : (none : Bool) (place : ℕ) → cond none (place == 0) (nat_le place longest_text) ≡ true → place ≤ longest_text
place_within none place e = grind arith

within : (n most : ℕ) → nat_le n most ≡ true → n ≤ most
within n most e = grind arith

-- what is read from the ranges of fields
fields_in_range : (row : RowModel) → AllBelowBase 256 row.text → AllBelowBase 256 row.owner → is_in_range (Text row.text) ≡ true → is_in_range (Owner row.owner) ≡ true
    → is_in_range (Beacon row.beacon) ≡ true → is_in_range (Pixel row.pixel) ≡ true → is_in_range (Priority row.priority) ≡ true → IsRowInRange row
fields_in_range row text owner short short_owner beacon pixel priority =
    let most = both (nat_le 1 row.priority) (nat_le row.priority 255) priority in
    record {
      text = record { size = within (length row.text) longest_text short; below = text };
      owner = record { size = within (length row.owner) longest_owner short_owner; below = owner };
      beacon = within row.beacon 1 beacon;
      pixel = within row.pixel 1 pixel;
      least = within 1 row.priority most.0;
      priority = within row.priority 255 most.1;
    }

row_in_range : (shown : ShownModel) → IsTyped shown → message_fault shown ≡ None → IsRowInRange (shown_row shown)
row_in_range shown is none =
    let text = passed (is_in_range (Text shown.text)) _ _ none in
    let owner = passed (is_in_range (Owner shown.owner)) _ _ text.1 in
    let beacon = passed (is_in_range (Beacon shown.beacon)) _ _ owner.1 in
    let pixel = passed (is_in_range (Pixel shown.pixel)) _ _ beacon.1 in
    let priority = passed (is_in_range (Priority shown.priority)) _ _ pixel.1 in
    fields_in_range (shown_row shown) is.text is.owner text.0 owner.0 beacon.0 pixel.0 priority.0

remaining_in_range : (shown : ShownModel) → showing_fault shown ≡ None → IsTimeInRange shown.remaining
remaining_in_range shown none =
    let checksum = passed (has_its_checksum shown) _ _ none in
    let blank = passed (is_blank_by_its_source shown) _ _ checksum.1 in
    let mode = passed (is_mode shown.mode) _ _ blank.1 in
    time_in_range shown.mode shown.remaining (passed (is_time shown.mode shown.remaining) _ _ mode.1).0

shown_in_range : (shown : ShownModel) → IsTyped shown → shown_fault shown ≡ None → IsShownInRange shown
shown_in_range shown is none =
    let parts = neither (message_fault shown) (showing_fault shown) none in
    record {
      row = row_in_range shown is parts.0;
      source = is.source;
      mode = is.mode;
      address = is.address;
      remaining = remaining_in_range shown parts.1;
      defaults = is.defaults;
    }

message_in_range : (table : TableModel) (face : FaceModel) (shown : ShownModel) → IsTyped shown → restoring.message_fault table face shown ≡ None
    → IsShownInRange shown
message_in_range table face shown is none =
    shown_in_range shown is (unmapped messages.Shown (shown_fault shown) (neither (option_map messages.Shown (shown_fault shown)) (restoring.standing_fault table face shown) none).0)

-- ---- the parts

-- the sign is kept with these parts
pub parts_kept : (s : SignState) (parts : SignParts) → IsKept s → AreSettingsInRange parts.settings → IsTyped parts.shown → IsTyped parts.shown_at_power_loss
    → AreTyped parts.reports → parts_fault s parts ≡ None → IsKept (with_parts s parts)
parts_kept s parts is settings shown kept reports none =
    let first = neither (restoring.set_fault s.config.face parts.settings parts.silent_seconds) _ none in
    let shown_wrong = restoring.message_fault s.table s.config.face parts.shown in
    let kept_wrong = restoring.message_fault s.table s.config.face parts.shown_at_power_loss in
    let second = neither (option_map faults.Shown shown_wrong) _ first.1 in
    let third = neither (option_map faults.Kept kept_wrong) (restoring.told_fault parts) second.1 in
    let fits = passed (fit s.config.face.fonts parts.settings.defaults) _ _ first.0 in
    let silent = passed (nat_le parts.silent_seconds (60 * 65535)) _ _ fits.1 in
    let told = unmapped faults.Reports (report_fault parts.reports) (neither (option_map faults.Reports (report_fault parts.reports)) _ third.1).0 in
    let validated = passed (is_validation_error parts.reports.validate_error) _ _ told in
    let activated = passed (is_activation_error parts.reports.activate_error) _ _ validated.1 in
    let syntax = passed (is_syntax_error parts.reports.syntax_error) _ _ activated.1 in
    let place = passed (is_place_of parts.reports.syntax_error parts.reports.syntax_error_position) _ _ syntax.1 in
    record {
      in_range = record {
        config = is.in_range.config;
        table = is.in_range.table;
        settings = settings;
        silent_seconds = within parts.silent_seconds (60 * 65535) silent.0;
        shown = message_in_range s.table s.config.face parts.shown shown (unmapped faults.Shown shown_wrong second.0);
        shown_at_power_loss = message_in_range s.table s.config.face parts.shown_at_power_loss kept (unmapped faults.Kept kept_wrong third.0);
        reports = record {
          validate_error = reports.validate_error;
          activate_error = reports.activate_error;
          syntax_error = reports.syntax_error;
          syntax_error_position = place_within (parts.reports.syntax_error == no_error) parts.reports.syntax_error_position place.0;
          accepted_code = reports.accepted_code;
          failed_code = reports.failed_code;
        };
      };
      fit = holds (fit s.config.face.fonts parts.settings.defaults) fits.0;
      communities = is.communities;
    }
  where
    holds : (b : Bool) → b ≡ true → IsTrue b
    holds b e = grind arith

pub parts_whole : (old : Inside) (parts : SignParts) (source : List ℕ) → IsWhole old → AreSettingsInRange parts.settings → IsTyped parts.shown
    → IsTyped parts.shown_at_power_loss → AreTyped parts.reports → parts_fault (state_of old) parts ≡ None → source ≡ octets_of_id old.table.order parts.shown.source
    → IsWhole (record old {
      settings = parts.settings;
      silent_seconds = parts.silent_seconds;
      shown = parts.shown;
      source = source;
      shown_at_power_loss = parts.shown_at_power_loss;
      reports = parts.reports;
      powered = parts.powered;
    })
parts_whole old parts source is settings shown kept reports none octets = record {
  kept = parts_kept (state_of old) parts is.kept settings shown kept reports none;
  source = octets;
  known = is.known;
}

-- ---- a row

put_in_range : (services : Services) (put : RowModel) → AllBelowBase 256 put.text → AllBelowBase 256 put.owner → value_fault services put ≡ None → IsRowInRange put
put_in_range services put text owner none =
    let used = found (is_not_used put.status) _ _ none in
    let short = passed (is_in_range (Text put.text)) _ _ used in
    let short_owner = passed (is_in_range (Owner put.owner)) _ _ short.1 in
    let beacon = passed (may_have_beacon services put) _ _ short_owner.1 in
    let pixel = passed (may_have_pixel services put) _ _ beacon.1 in
    let priority = passed (is_in_range (Priority put.priority)) _ _ pixel.1 in
    fields_in_range put text owner short.0 short_owner.0 (both (is_in_range (Beacon put.beacon)) _ beacon.0).0 (both (is_in_range (Pixel put.pixel)) _ pixel.0).0 priority.0
  where
    found : {A : Type 0} (b : Bool) (x : A) (o : Option A) → cond b (Some x) o ≡ None → o ≡ None
    found true x o e = absurd (cc)
    found false x o e = e

over_in_range : (free : Bool) (put : RowModel) → IsRowInRange put → IfSome (cond free (Some put) None) IsRowInRange
over_in_range true put is = is
over_in_range false put is = tt

put_table : (o : Option TableModel) (table : TableModel) → o ≡ Some table → IfSome o IsTableInRange → IsTableInRange table
put_table None table e some = absurd (cc)
put_table (Some found) table e some = subst IsTableInRange (same_Some found table e) some

entries_there : (old : Inside) → IsWhole old → length old.known.rows ≡ 80 → HasEntries old.known old.table
entries_there old is entries = grind arith

same_parts : (put : RowModel) (old new : TableModel) (id : RowId) → changed old id (put_over put) ≡ Some new → new.order ≡ old.order
same_parts put old new id e = by_memory (memory_of id.memory) put old new id.number e
  where
    by_memory : (memory : Option Memory) (put : RowModel) (old new : TableModel) (number : ℕ) → changed_by old memory number (put_over put) ≡ Some new → new.order ≡ old.order
    by_memory memory put old new number e = grind arith

pub put_whole : (old : Inside) (id : RowId) (put : RowModel) (table : TableModel) (known : KnownTexts) → IsWhole old → length old.known.rows ≡ 80
    → AllBelowBase 256 put.text → AllBelowBase 256 put.owner → row_fault old.table id put ≡ None → changed old.table id (put_over put) ≡ Some table
    → known ≡ forgotten old.known id.memory id.number → IsWhole (record old { table = table; known = known })
put_whole old id put table known is entries text owner none e k =
    let in_range = put_in_range old.table.services put text owner (neither (value_fault old.table.services put) _ none).0 in
    let rows = put_table (changed old.table id (put_over put)) table e
    (changed_table old.table id (put_over put) is.kept.in_range.table (λ row h. over_in_range (is_not_used row.status) put in_range)) in
    record {
      kept = record {
        in_range = record {
          config = is.kept.in_range.config;
          table = rows;
          settings = is.kept.in_range.settings;
          silent_seconds = is.kept.in_range.silent_seconds;
          shown = is.kept.in_range.shown;
          shown_at_power_loss = is.kept.in_range.shown_at_power_loss;
          reports = is.kept.in_range.reports;
        };
        fit = is.kept.fit;
        communities = is.kept.communities;
      };
      source = is.source ∙ ap (λ (o : Order). octets_of_id o old.shown.source) (sym (same_parts put old.table table id e));
      known = subst (λ (known : KnownTexts). AreKnown known old.face table) (sym k)
          (known_put old.known old.face put old.table table id (entries_there old is entries) e is.known);
    }
