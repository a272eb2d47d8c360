-- The fields of a sign in range are fields that a text can say.
use Rattle.std.proofs.Common.{◌≡◌, ℕ, ◌+◌, ◌≤◌, ◌<◌, Bool, true, false, cond, List, [], ◌∷◌, length, slice_index, Option, Some, None, refl, arith}
use Rattle.std.specs.Prelude.{IfSome}
use Rattle.std.specs.List.{AllByRecursion}
use Rattle.dms_text_exact.proofs.DigitLaws.{bytes_below}
use Rattle.dms_codes.specs.declared.codes.Order.{Order}
use Rattle.dms_codes.specs.declared.codes.Order.TheVariants.{High, Swapped}
use Rattle.dms_codes.specs.declared.codes.MessageId.{MessageId}
use Rattle.dms_codes.specs.Codes.{octets_of_id, IsMessageId}
use Rattle.dms_codes.specs.Status.{is_not_used}
use Rattle.dms_face.specs.declared.defaults.Defaults.{Defaults}
use Rattle.dms_table.specs.Rows.{RowModel}
use Rattle.dms_table.specs.Activation.{ShownModel, shown_row}
use Rattle.dms_sign_access.specs.declared.settings.Fallbacks.{Fallbacks}
use Rattle.dms_sign_access.specs.declared.settings.SignSettings.{SignSettings}
use Rattle.dms_sign_access.specs.declared.reports.Reports.{Reports}
use Rattle.dms_sign_access.specs.Ranges.{AreDefaultsInRange}
use Rattle.dms_sign.specs.State.{SignState}
use Rattle.dms_sign.specs.InRange as range
use Rattle.dms_sign.specs.InRange.{IsRowInRange, AreFallbacksInRange, AreSettingsInRange, IsTimeInRange, IsShownInRange, AreReportsInRange, IsSignInRange}
use Rattle.dms_sign.proofs.InRangeValues.{id_below}
use Rattle.dms_sign_state.specs.NumberSettings.{all_numbers, number_of, greatest_number}
use Rattle.dms_sign_state.specs.Fields.{UsedRow, AreOctets, IsCode, IsMessage, IsUsedRow, AreUsedRows, AreDefaults, AreFallbacks, AreSettings, IsPut, AreReports, AreFields}
use Rattle.dms_sign_state.specs.StateText.{message_of, used_row, used_rows, put_fields, fields_of}

-- ---- octets

octets_are : (count : ℕ) (octets : List ℕ) → range.AreOctets count octets → IsCode count octets
octets_are count octets are = (are.size, bytes_below octets are.below)

octets_up_to : (most : ℕ) (octets : List ℕ) → range.AreOctetsUpTo most octets → AreOctets most octets
octets_up_to most octets are = (are.size, bytes_below octets are.below)

id_size : (order : Order) (id : MessageId) → length (octets_of_id order id) ≡ 5
id_size High id = refl
id_size Swapped id = refl

id_is : (order : Order) (id : MessageId) → IsMessageId id → IsCode 5 (octets_of_id order id)
id_is order id is = (id_size order id, bytes_below (octets_of_id order id) (id_below order id is))

-- ---- rows

message_is : (row : RowModel) → IsRowInRange row → IsMessage (message_of row)
message_is row is =
    (octets_up_to 512 row.text is.text, (octets_up_to 127 row.owner is.owner, (omega (arith, is.beacon), (omega (arith, is.pixel), is.priority))))

weaker : (n most : ℕ) (rows : List UsedRow) → AreUsedRows (n + 1) most rows → AreUsedRows n most rows
weaker n most [] are = tt
weaker n most (row ∷ rows) are = (((omega (arith, are.0.0.0), are.0.0.1), are.0.1), are.1)

used_are : (free : Bool) (n most : ℕ) (row : RowModel) (rest : List UsedRow) → is_not_used row.status ≡ free → n ≤ most → IsMessage (message_of row)
    → AreUsedRows (n + 1) most rest → AreUsedRows n most (cond free rest (used_row n row ∷ rest))
used_are true n most row rest e within is are = weaker n most rest are
used_are false n most row rest e within is are = (((omega arith, within), (e, is)), are)

rows_are : (n most : ℕ) (rows : List RowModel) → n + length rows ≤ most + 1 → AllByRecursion IsRowInRange rows → AreUsedRows n most (used_rows n rows)
rows_are n most [] within all = tt
rows_are n most (row ∷ rows) within all =
    used_are (is_not_used row.status) n most row (used_rows (n + 1) rows) refl (omega (arith, within)) (message_is row all.0)
    (rows_are (n + 1) most rows (omega (arith, within)) all.1)

-- ---- what is shown

defaults_are : (defaults : Defaults) → AreDefaultsInRange defaults → AreDefaults defaults
defaults_are defaults are =
    ((are.background, (are.foreground, (are.flash_on, are.flash_off))), ((are.font, (are.line, are.page)), (are.on, are.off)))

seconds_are : (remaining : Option ℕ) → IsTimeInRange remaining → IfSome remaining (λ seconds. seconds ≤ 4294967295)
seconds_are None is = tt
seconds_are (Some seconds) is = omega (arith, is)

put_is : (order : Order) (shown : ShownModel) → IsShownInRange shown → IsPut (put_fields order shown)
put_is order shown is = (
  message_is (shown_row shown) is.row,
  (
    id_is order shown.source is.source,
    (
      is.mode,
      (
        octets_are 4 shown.address is.address,
        (seconds_are shown.remaining is.remaining, defaults_are shown.defaults is.defaults),
      ),
    ),
  ),
)

-- ---- settings and reports

fallbacks_are : (fallbacks : Fallbacks) → AreFallbacksInRange fallbacks → AreFallbacks fallbacks
fallbacks_are f are = (
  octets_are 5 f.short_power_recovery are.short_power_recovery,
  (
    octets_are 5 f.long_power_recovery are.long_power_recovery,
    (octets_are 5 f.power_loss are.power_loss, (octets_are 5 f.end_duration are.end_duration, octets_are 5 f.communications_loss are.communications_loss)),
  ),
)

numbers_are : (s : SignSettings) → AreSettingsInRange s → AllByRecursion (λ number. number_of s number ≤ greatest_number) all_numbers
numbers_are s are = grind arith

settings_are : (settings : SignSettings) → AreSettingsInRange settings → AreSettings settings
settings_are s are =
    (defaults_are s.defaults are.defaults, (fallbacks_are s.fallbacks are.fallbacks, numbers_are s are))

reports_are : (reports : Reports) → AreReportsInRange reports → AreReports reports
reports_are r are = (
  (are.validate_error, (are.activate_error, (are.syntax_error, omega (arith, are.syntax_error_position)))),
  (octets_are 12 r.accepted_code are.accepted_code, octets_are 12 r.failed_code are.failed_code),
)

-- ---- the whole

pub fields_in_range : (s : SignState) → IsSignInRange s → AreFields (fields_of s)
fields_in_range s is = record {
  changeable = rows_are 1 64 s.table.changeable (omega (arith, is.table.changeable_count)) is.table.changeable;
  volatile = rows_are 1 16 s.table.volatile (omega (arith, is.table.volatile_count)) is.table.volatile;
  settings = settings_are s.settings is.settings;
  silent = omega (arith, is.silent_seconds);
  shown = put_is s.table.order s.shown is.shown;
  kept = put_is s.table.order s.shown_at_power_loss is.shown_at_power_loss;
  reports = reports_are s.reports is.reports;
}
