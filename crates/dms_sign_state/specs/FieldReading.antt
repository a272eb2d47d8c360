-- Reading the fields of a state from a text's front. Inner words of the readers (this profile).
use Rattle.std.specs.Prelude.{ℕ, zero, suc, ◌+◌, ◌==◌, ◌&&◌, Bool, if◌then◌else◌, List, [], ◌∷◌, ◌++◌, length, nat_le}
use Rattle.std.specs.Prelude.{Option, Some, None, Ok, Err, codes}
use Rattle.std.specs.Str.{byte}
use Rattle.dms_codes.specs.Limits.{longest_text, longest_owner}
use Rattle.dms_codes.specs.declared.status.Status.{Status}
use Rattle.dms_codes.specs.declared.status.Status.TheVariants as statuses
use Rattle.dms_face.specs.declared.defaults.Defaults.{Defaults}
use Rattle.dms_sign_access.specs.declared.settings.Fallbacks.{Fallbacks}
use Rattle.dms_sign_access.specs.declared.settings.SignSettings.{SignSettings}
use Rattle.dms_sign_access.specs.declared.reports.Reports.{Reports}
use Rattle.dms_sign_access.specs.Settings.{first_settings}
use Rattle.dms_sign_state.specs.declared.field.Put.{Put}
use Rattle.dms_sign_state.specs.declared.field.Put.TheVariants.{Shown, Kept}
use Rattle.dms_sign_state.specs.declared.field.Stored.{Stored}
use Rattle.dms_sign_state.specs.declared.field.Stored.TheVariants.{Changeable, Volatile}
use Rattle.dms_sign_state.specs.declared.field.SignStateField.{SignStateField}
use Rattle.dms_sign_state.specs.declared.field.SignStateField.TheVariants as fields
use Rattle.dms_sign_state.specs.declared.field.SignFieldLack.{SignFieldLack}
use Rattle.dms_sign_state.specs.declared.number_settings.NumberSetting.{NumberSetting}
use Rattle.dms_sign_state.specs.NumberSettings.{all_numbers, number_word, with_number, greatest_number}
use Rattle.dms_sign_state.specs.Fields.{MessageModel, UsedRow, PutModel, FieldsModel}
use Rattle.dms_sign_state.specs.FieldFaults.{put_name, stored_name, most_rows}
use Rattle.dms_text_exact.specs.Fronts.{starts_with}
use Rattle.dms_sign_state.specs.WordReading.{◌>>=◌, Reader, pair, made, named_at, after, number, small, octets, code}
use Rattle.dms_sign_state.specs.WordReading.{address}

-- a field, whose reader says what lacks
abbrev pub field : {A : Type 0} → SignStateField → (SignFieldLack → Reader A) → Reader A
field wanted reader text = reader (record { wanted = wanted; left = length text }) text

-- ---- lines

-- a number after a name of two parts
abbrev pub number_line_at : List ℕ → List ℕ → ℕ → SignFieldLack → Reader ℕ
number_line_at name part high lack = after name lack (after part lack (number 0 high (byte "\n") lack))

-- a code after a name of two parts
abbrev pub code_line_at : List ℕ → List ℕ → ℕ → SignFieldLack → Reader (List ℕ)
code_line_at name part size lack = after name lack (after part lack (code size (byte "\n") lack))

unfoldable pub number_field : SignStateField → List ℕ → List ℕ → ℕ → Reader ℕ
number_field wanted name part high = field wanted (number_line_at name part high)

unfoldable pub code_field : SignStateField → List ℕ → List ℕ → ℕ → Reader (List ℕ)
code_field wanted name part size = field wanted (code_line_at name part size)

abbrev pub colours_at : SignFieldLack → Reader (ℕ × (ℕ × (ℕ × ℕ)))
colours_at lack =
    pair (small (byte " ") lack)
    (pair (small (byte " ") lack) (pair (small (byte " ") lack) (small (byte " ") lack)))

abbrev pub layouts_at : SignFieldLack → Reader (ℕ × (ℕ × ℕ))
layouts_at lack = pair (small (byte " ") lack) (pair (small (byte " ") lack) (small (byte " ") lack))

abbrev pub times_at : SignFieldLack → Reader (ℕ × ℕ)
times_at lack = pair (small (byte " ") lack) (small (byte "\n") lack)

abbrev pub defaults_of : (ℕ × (ℕ × (ℕ × ℕ))) × ((ℕ × (ℕ × ℕ)) × (ℕ × ℕ)) → Defaults
defaults_of x = record {
  background = x.0.0;
  foreground = x.0.1.0;
  flash_on = x.0.1.1.0;
  flash_off = x.0.1.1.1;
  font = x.1.0.0;
  line = x.1.0.1.0;
  page = x.1.0.1.1;
  on = x.1.1.0;
  off = x.1.1.1;
}

unfoldable pub defaults_at : SignFieldLack → Reader Defaults
defaults_at lack = made defaults_of (pair (colours_at lack) (pair (layouts_at lack) (times_at lack)))

abbrev pub defaults_line_at : List ℕ → List ℕ → SignFieldLack → Reader Defaults
defaults_line_at name part lack = after name lack (after part lack (defaults_at lack))

unfoldable pub defaults_field : SignStateField → List ℕ → List ℕ → Reader Defaults
defaults_field wanted name part = field wanted (defaults_line_at name part)

abbrev pub message_of : List ℕ × (List ℕ × (ℕ × (ℕ × ℕ))) → MessageModel
message_of x =
    record { text = x.0; owner = x.1.0; beacon = x.1.1.0; pixel = x.1.1.1.0; priority = x.1.1.1.1 }

unfoldable pub message_at : SignFieldLack → Reader MessageModel
message_at lack =
    made message_of (pair (octets longest_text (byte " ") lack) (pair (octets longest_owner (byte " ") lack)
    (pair (small (byte " ") lack) (pair (small (byte " ") lack) (small (byte "\n") lack)))))

-- ---- rows

-- the status of a used row
abbrev pub used_status : ℕ → Status
used_status number =
    if number == 2 then statuses.Modifying
    else if number == 3 then statuses.Validating
    else if number == 4 then statuses.Valid
    else statuses.Error

abbrev pub status_at : SignFieldLack → Reader Status
status_at lack = made used_status (number 2 5 (byte " ") lack)

abbrev pub row_of : ℕ × (Status × MessageModel) → UsedRow
row_of x = record { number = x.0; status = x.1.0; message = x.1.1 }

-- a row of this number or a greater one
unfoldable pub row_at : Stored → ℕ → SignFieldLack → Reader UsedRow
row_at stored least lack =
    after (stored_name stored) lack (after (codes " ") lack (made row_of
    (pair (number least (most_rows stored) (byte " ") lack) (pair (status_at lack) (message_at lack)))))

unfoldable pub row_field : Stored → ℕ → Reader UsedRow
row_field stored least = field (fields.Row stored least) (row_at stored least)

-- a row of this number or a greater one is next
abbrev pub has_row : Stored → ℕ → List ℕ → Bool
has_row stored least text = nat_le least (most_rows stored) && starts_with (stored_name stored ++ codes " ") text

-- so many rows at most
unfoldable pub rows_at : Stored → ℕ → ℕ → Reader (List UsedRow)
rows_at stored zero least text = Ok ([], text)
rows_at stored (suc more) least text =
    if has_row stored least text
    then (row_field stored least text >>= λ row.
    rows_at stored more (row.0.number + 1) row.1 >>= λ others. Ok (row.0 ∷ others.0, others.1))
    else Ok ([], text)

-- ---- what was set

abbrev pub fallbacks_of : List ℕ × (List ℕ × (List ℕ × (List ℕ × List ℕ))) → Fallbacks
fallbacks_of x = record {
  short_power_recovery = x.0;
  long_power_recovery = x.1.0;
  power_loss = x.1.1.0;
  end_duration = x.1.1.1.0;
  communications_loss = x.1.1.1.1;
}

abbrev pub fallback_at : SignStateField → List ℕ → Reader (List ℕ)
fallback_at wanted name = code_field wanted name (codes " ") 5

unfoldable pub fallbacks_at : Reader Fallbacks
fallbacks_at =
    made fallbacks_of (pair (fallback_at fields.ShortPowerRecovery (codes "short-power-recovery"))
    (pair (fallback_at fields.LongPowerRecovery (codes "long-power-recovery"))
    (pair (fallback_at fields.PowerLoss (codes "power-loss"))
    (pair (fallback_at fields.EndDuration (codes "end-duration"))
    (fallback_at fields.CommunicationsLoss (codes "communications-loss"))))))

abbrev pub number_at : SignStateField → List ℕ → ℕ → Reader ℕ
number_at wanted name high = number_field wanted name (codes " ") high

-- a setting that is a number
abbrev pub setting_at : NumberSetting → Reader ℕ
setting_at number = number_at (fields.Number number) (number_word number) greatest_number

-- these, one after the other, put among the settings
unfoldable pub numbers_at : List NumberSetting → SignSettings → Reader SignSettings
numbers_at [] settings text = Ok (settings, text)
numbers_at (number ∷ numbers) settings text =
    setting_at number text >>= λ x. numbers_at numbers (with_number number x.0 settings) x.1

-- settings of which the numbers are not known
abbrev pub begun_settings : Defaults → Fallbacks → SignSettings
begun_settings defaults fallbacks = record (first_settings defaults) { fallbacks = fallbacks }

unfoldable pub settings_at : Reader SignSettings
settings_at text =
    defaults_field fields.Defaults (codes "defaults") (codes " ") text >>= λ defaults.
    fallbacks_at defaults.1 >>= λ fallbacks.
    numbers_at all_numbers (begun_settings defaults.0 fallbacks.0) fallbacks.1

-- ---- what is shown

unfoldable pub address_at : List ℕ → SignFieldLack → Reader (List ℕ)
address_at name lack =
    after name lack (after (codes "-address ") lack (address (byte "\n") lack))

-- the seconds until the end, where there is one
unfoldable pub remaining_at : Put → Reader (Option ℕ)
remaining_at put text =
    if starts_with (put_name put ++ codes "-remaining ") text
    then made Some (number_field (fields.Remaining put) (put_name put) (codes "-remaining ") 4294967295) text
    else Ok (None, text)

abbrev pub put_of : MessageModel × (List ℕ × (ℕ × (List ℕ × (Option ℕ × Defaults)))) → PutModel
put_of x = record {
  message = x.0;
  source = x.1.0;
  mode = x.1.1.0;
  address = x.1.1.1.0;
  remaining = x.1.1.1.1.0;
  defaults = x.1.1.1.1.1;
}

abbrev pub message_line_at : Put → SignFieldLack → Reader MessageModel
message_line_at put lack = after (put_name put) lack (after (codes " ") lack (message_at lack))

unfoldable pub message_field : Put → Reader MessageModel
message_field put = field (fields.Message put) (message_line_at put)

unfoldable pub address_field : Put → Reader (List ℕ)
address_field put = field (fields.Address put) (address_at (put_name put))

unfoldable pub put_at : Put → Reader PutModel
put_at put =
    made put_of (pair (message_field put) (pair (code_field (fields.Source put) (put_name put) (codes "-source ") 5)
    (pair (number_field (fields.Mode put) (put_name put) (codes "-mode ") 255) (pair (address_field put)
    (pair (remaining_at put) (defaults_field (fields.Copied put) (put_name put) (codes "-defaults ")))))))

-- ---- what is reported

abbrev pub reports_of : (ℕ × (ℕ × (ℕ × ℕ))) × (List ℕ × List ℕ) → Reports
reports_of x = record {
  validate_error = x.0.0;
  activate_error = x.0.1.0;
  syntax_error = x.0.1.1.0;
  syntax_error_position = x.0.1.1.1;
  accepted_code = x.1.0;
  failed_code = x.1.1;
}

unfoldable pub verdicts_at : Reader (ℕ × (ℕ × (ℕ × ℕ)))
verdicts_at =
    pair (number_at fields.ValidateError (codes "validate-error") 255)
    (pair (number_at fields.ActivateError (codes "activate-error") 255)
    (pair (number_at fields.SyntaxError (codes "syntax-error") 255)
    (number_at fields.SyntaxErrorPosition (codes "syntax-error-position") 65535)))

unfoldable pub reports_at : Reader Reports
reports_at =
    made reports_of (pair verdicts_at (pair (code_field fields.AcceptedCode (codes "accepted-code") (codes " ") 12)
    (code_field fields.FailedCode (codes "failed-code") (codes " ") 12)))

-- ---- the whole

-- a line that has no value
abbrev pub line_at : List ℕ → SignFieldLack → Reader (Unit {0})
line_at line lack text = named_at line lack text >>= λ rest. Ok (tt, rest)

unfoldable pub form_at : Reader (Unit {0})
form_at = field fields.Form (line_at (codes "state 1 sign\n"))

-- the last line, and nothing after it
unfoldable pub end_at : SignFieldLack → Reader (Unit {0})
end_at lack text = named_at (codes "end\n") lack text >>= λ rest. if length rest == 0 then Ok (tt, []) else Err lack

unfoldable pub end_field : Reader (Unit {0})
end_field = field fields.End end_at

unfoldable pub powered_at : Reader Bool
powered_at = made (λ number. number == 1) (number_at fields.Powered (codes "powered") 1)

abbrev pub rows_of : Stored → Reader (List UsedRow)
rows_of stored = rows_at stored (most_rows stored) 1

-- the rows, and what was set
unfoldable pub set_at : Reader (List UsedRow × (List UsedRow × (SignSettings × ℕ)))
set_at =
    pair (rows_of Changeable)
    (pair (rows_of Volatile) (pair settings_at (number_at fields.Silent (codes "silent") 4294967295)))

-- what is shown, and what is reported
unfoldable pub seen_at : Reader (PutModel × (PutModel × (Reports × Bool)))
seen_at = pair (put_at Shown) (pair (put_at Kept) (pair reports_at powered_at))

abbrev pub fields_of_parts : (List UsedRow × (List UsedRow × (SignSettings × ℕ)))
    × (PutModel × (PutModel × (Reports × Bool))) → FieldsModel
fields_of_parts x = record {
  changeable = x.0.0;
  volatile = x.0.1.0;
  settings = x.0.1.1.0;
  silent_seconds = x.0.1.1.1;
  shown = x.1.0;
  shown_at_power_loss = x.1.1.0;
  reports = x.1.1.1.0;
  powered = x.1.1.1.1;
}

-- all of a text
unfoldable pub fields_at : Reader FieldsModel
fields_at =
    made (λ x. fields_of_parts x.1.0) (pair form_at (pair (pair set_at seen_at) end_field))
