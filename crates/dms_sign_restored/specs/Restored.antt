-- Which sign is put in the state that a text says, or restored of it, and why none is (this profile).
use Rattle.std.specs.Prelude.{◌≡◌, ℕ, ◌+◌, ◌-◌, if◌then◌else◌, List, [], ◌∷◌, length}
use Rattle.std.specs.Prelude.{Option, Some, None, is_none, unwrap_or, option_map, Result, Ok, Err, ⊤}
use Rattle.dms_codes.specs.declared.codes.Order.{Order}
use Rattle.dms_codes.specs.declared.row_id.RowId.{RowId}
use Rattle.dms_codes.specs.Codes.{id_of}
use Rattle.dms_codes.specs.Memory.{changeable_memory, volatile_memory}
use Rattle.dms_table.specs.declared.saved_row.RowFault.{RowFault}
use Rattle.dms_table.specs.declared.stock.TableFault.TheVariants.{Memory}
use Rattle.dms_table.specs.declared.saved_shown.ShownFault.{ShownFault}
use Rattle.dms_table.specs.declared.saved_shown.ShownFault.TheVariants as shown_faults
use Rattle.dms_table.specs.Rows.{RowModel, changed}
use Rattle.dms_table.specs.Activation.{ShownModel}
use Rattle.dms_table.specs.SavedRows.{put_over, row_fault}
use Rattle.dms_table.specs.Stock.{table_of}
use Rattle.dms_sign_access.specs.declared.reports.ReportFault.{ReportFault}
use Rattle.dms_sign_access.specs.declared.reports.ReportFault.TheVariants as report_faults
use Rattle.dms_sign.specs.declared.config.Config.{Config}
use Rattle.dms_sign.specs.declared.config.ConfigFault.TheVariants as config_faults
use Rattle.dms_sign.specs.declared.sign.restoring.SignParts.{SignParts}
use Rattle.dms_sign_access.specs.declared.restoring.MessageFault.{MessageFault}
use Rattle.dms_sign_access.specs.declared.restoring.MessageFault.TheVariants as message_faults
use Rattle.dms_sign_access.specs.declared.restoring.StateFault.{StateFault}
use Rattle.dms_sign_access.specs.declared.restoring.StateFault.TheVariants as part_faults
use Rattle.dms_sign.specs.Configuration.{config_of, config_fault, IsFirstConfigFault}
use Rattle.dms_sign.specs.State.{SignState, start}
use Rattle.dms_sign.specs.Restoring.{with_table, with_parts, parts_fault}
use Rattle.dms_sign_state.specs.declared.field.Stored.{Stored}
use Rattle.dms_sign_state.specs.declared.field.Stored.TheVariants.{Changeable, Volatile}
use Rattle.dms_sign_state.specs.declared.field.StateError.TheVariants as errors
use Rattle.dms_sign_restored.specs.declared.restoring.Misfit.{Misfit}
use Rattle.dms_sign_restored.specs.declared.restoring.MisfitCause.TheVariants as causes
use Rattle.dms_sign_restored.specs.declared.restoring.SignStateRefusal.{SignStateRefusal}
use Rattle.dms_sign_restored.specs.declared.restoring.SignStateRefusal.TheVariants as refusals
use Rattle.dms_sign_restored.specs.declared.restoring.SignRestoreFault.{SignRestoreFault}
use Rattle.dms_sign_restored.specs.declared.restoring.SignRestoreFault.TheVariants as faults
use Rattle.dms_sign_state.specs.NumberSettings.{settings_lines}
use Rattle.dms_sign_state.specs.Fields.{UsedRow, PutModel, FieldsModel, AreFields}
use Rattle.dms_sign_state.specs.FieldsText.{text_of_fields}
use Rattle.dms_sign_state.specs.FieldFaults.{IsErrorOf}

-- ---- what the fields say

abbrev pub stored_memory : Stored → ℕ
stored_memory Changeable = changeable_memory
stored_memory Volatile = volatile_memory

abbrev pub row_of : UsedRow → RowModel
row_of row = record {
  text = row.message.text;
  owner = row.message.owner;
  beacon = row.message.beacon;
  pixel = row.message.pixel;
  priority = row.message.priority;
  status = row.status;
}

abbrev pub shown_of : Order → PutModel → ShownModel
shown_of order put = record {
  text = put.message.text;
  owner = put.message.owner;
  beacon = put.message.beacon;
  pixel = put.message.pixel;
  priority = put.message.priority;
  source = id_of order put.source;
  mode = put.mode;
  address = put.address;
  remaining = put.remaining;
  defaults = put.defaults;
}

abbrev pub parts_of : Order → FieldsModel → SignParts
parts_of order f = record {
  settings = f.settings;
  silent_seconds = f.silent_seconds;
  shown = shown_of order f.shown;
  shown_at_power_loss = shown_of order f.shown_at_power_loss;
  reports = f.reports;
  powered = f.powered;
}

-- ---- lines, of which the first is 1

-- the last line of the rows
abbrev pub rows_end : FieldsModel → ℕ
rows_end f = 1 + length f.changeable + length f.volatile

-- the line of the silence, behind those of the settings
abbrev pub silence_line : FieldsModel → ℕ
silence_line f = rows_end f + settings_lines + 1

-- the first line of what is shown
abbrev pub shown_line : FieldsModel → ℕ
shown_line f = silence_line f + 1

-- how many lines a message has that is put
abbrev pub put_lines : PutModel → ℕ
put_lines put = if is_none put.remaining then 5 else 6

abbrev pub kept_line : FieldsModel → ℕ
kept_line f = shown_line f + put_lines f.shown

abbrev pub reports_line : FieldsModel → ℕ
reports_line f = kept_line f + put_lines f.shown_at_power_loss

-- the line of a message, from its first, in which it is not as it must be
abbrev pub line_of_shown : ShownFault → ℕ
line_of_shown shown_faults.Checksum = 1
line_of_shown shown_faults.Blank = 1
line_of_shown shown_faults.Mode = 2
line_of_shown shown_faults.Remaining = 4
line_of_shown _ = 0

abbrev pub line_of_message : PutModel → MessageFault → ℕ
line_of_message put (message_faults.Shown fault) = line_of_shown fault
line_of_message put message_faults.Source = 1
line_of_message put message_faults.Defaults = put_lines put - 1
line_of_message put _ = 0

abbrev pub line_of_report : ReportFault → ℕ
line_of_report report_faults.ValidateError = 0
line_of_report report_faults.ActivateError = 1
line_of_report report_faults.SyntaxError = 2
line_of_report report_faults.Position = 3

-- the line of a part
abbrev pub line_of_part : FieldsModel → StateFault → ℕ
line_of_part f part_faults.Defaults = rows_end f + 1
line_of_part f part_faults.Silence = silence_line f
line_of_part f (part_faults.Shown fault) = shown_line f + line_of_message f.shown fault
line_of_part f (part_faults.Kept fault) = kept_line f + line_of_message f.shown_at_power_loss fault
line_of_part f (part_faults.Reports fault) = reports_line f + line_of_report fault
line_of_part f part_faults.Power = reports_line f + 6

-- ---- the state that the fields make of a sign

abbrev pub and_then : Result SignState Misfit → (SignState → Result SignState Misfit) → Result SignState Misfit
and_then (Ok s) next = next s
and_then (Err misfit) next = Err misfit

abbrev pub unless_misfit : SignState → Option Misfit → Result SignState Misfit
unless_misfit s None = Ok s
unless_misfit s (Some misfit) = Err misfit

abbrev pub row_misfit : ℕ → RowFault → Misfit
row_misfit line fault = record { line = line; cause = causes.Row fault }

abbrev pub part_misfit : FieldsModel → StateFault → Misfit
part_misfit f fault = record { line = line_of_part f fault; cause = causes.Part fault }

abbrev pub stored_id : Stored → UsedRow → RowId
stored_id stored row = record { memory = stored_memory stored; number = row.number }

-- the row of a line is put
abbrev pub with_row : Stored → ℕ → UsedRow → SignState → Result SignState Misfit
with_row stored line row s = unless_misfit
    (unwrap_or (option_map (with_table s) (changed s.table (stored_id stored row) (put_over (row_of row)))) s)
    (option_map (row_misfit line) (row_fault s.table (stored_id stored row) (row_of row)))

-- the rows from a line on are put, one after the other
abbrev pub with_rows : Stored → ℕ → List UsedRow → SignState → Result SignState Misfit
with_rows stored line [] s = Ok s
with_rows stored line (row ∷ rows) s = and_then (with_row stored line row s) (with_rows stored (line + 1) rows)

-- what stands behind the rows is taken up
abbrev pub with_rest : FieldsModel → SignState → Result SignState Misfit
with_rest f s = unless_misfit (with_parts s (parts_of s.table.order f))
    (option_map (part_misfit f) (parts_fault s (parts_of s.table.order f)))

-- the sign in the state of the fields, or the first line that does not fit it
unfoldable pub with_fields : FieldsModel → SignState → Result SignState Misfit
with_fields f s =
    and_then (with_rows Changeable 2 f.changeable s) (λ s.
    and_then (with_rows Volatile (2 + length f.changeable) f.volatile s) (with_rest f))

-- ---- what is answered of a sign and a text

-- these fields are spelled
abbrev pub Say : List ℕ → FieldsModel → Type 0
Say text fields = AreFields fields × (text ≡ text_of_fields fields)

-- the text is of a state that fits the sign, and this is the sign in it
pub record IsPut (sign : SignState) (text : List ℕ) (s : SignState) : Type 0 where
  pub fields : FieldsModel
  pub said : Say text fields
  pub taken_up : with_fields fields sign ≡ Ok s

-- why it is not, the text before its lines, or that memory ran out
abbrev pub IsStateRefusal : SignState → List ℕ → SignStateRefusal → Type 0
IsStateRefusal sign text (refusals.Text error) = IsErrorOf text error
IsStateRefusal sign text (refusals.Sign misfit) =
    (fields : FieldsModel) × Say text fields × (with_fields fields sign ≡ Err misfit)

-- this is answered, unless memory runs out
abbrev pub IsAnswered : Result SignState Misfit → Result SignState SignStateRefusal → Type 0
IsAnswered wanted (Err (refusals.Text errors.Memory)) = ⊤
IsAnswered wanted (Err (refusals.Text (errors.Fault fault))) = ⊥
IsAnswered (Ok wanted) (Ok s) = s ≡ wanted
IsAnswered (Ok wanted) (Err (refusals.Sign misfit)) = ⊥
IsAnswered (Err wanted) (Ok s) = ⊥
IsAnswered (Err wanted) (Err (refusals.Sign misfit)) = misfit ≡ wanted

-- ---- what is answered of a configuration and a text

-- the sign of a configuration as it is made
abbrev pub made : Config → SignState
made config = start (config_of config) (table_of config.stock)

-- the text is of a state that fits the configuration
pub record IsRestored (config : Config) (text : List ℕ) (s : SignState) : Type 0 where
  pub possible : config_fault config ≡ None
  pub state : IsPut (made config) text s

-- why it is not, the configuration before the text, or that memory ran out
abbrev pub IsRestoreFault : Config → List ℕ → SignRestoreFault → Type 0
IsRestoreFault config text (faults.Config fault) = IsFirstConfigFault (config_fault config) fault
IsRestoreFault config text (faults.State refusal) =
    (config_fault config ≡ None) × IsStateRefusal (made config) text refusal

-- memory ran out
abbrev pub IsWantOfMemory : SignRestoreFault → Type 0
IsWantOfMemory (faults.Config fault) = fault ≡ config_faults.Table Memory
IsWantOfMemory (faults.State refusal) = refusal ≡ refusals.Text errors.Memory

-- this sign is given, unless memory runs out
abbrev pub IsGiven : SignState → Result SignState SignRestoreFault → Type 0
IsGiven s (Ok again) = again ≡ s
IsGiven s (Err fault) = IsWantOfMemory fault
