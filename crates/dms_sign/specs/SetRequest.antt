-- What a SET writes, what keeps it from doing so, and the state in which all that it assigns is assigned at once (RFC
-- 1157, 4.1.5, and this profile).
use Rattle.std.specs.Prelude.{ℕ, ◌+◌, ◌&&◌, ◌||◌, Bool, false, not, if◌then◌else◌, List, [], ◌∷◌, ◌++◌, length}
use Rattle.std.specs.Prelude.{filter_map, Option, Some, None, is_none, option_map, option_and_then, unwrap_or}
use Rattle.std.specs.List.{list_any}
use Rattle.dms_wire.specs.declared.error_status.ErrorStatus.{ErrorStatus}
use Rattle.dms_wire.specs.declared.error_status.ErrorStatus.TheVariants.{NoSuchName, BadValue, GenErr}
use Rattle.dms_wire.specs.Message.{VarBind}
use Rattle.dms_codes.specs.Status.{is_modifying}
use Rattle.dms_table.specs.Rows.{TableModel, RowReading, row_read, written}
use Rattle.dms_mib.specs.declared.instance.Instance.{Instance}
use Rattle.dms_mib_instances.specs.Objects.{instance_named}
use Rattle.dms_sign.specs.State.{SignState}
use Rattle.dms_sign_access.specs.Access.{Write, SetField, is_command, is_settable, write_of}
use Rattle.dms_sign_access.specs.MetNames.{is_among}
use Rattle.dms_sign_access.specs.Settings.{set_by}

-- ---- what keeps a SET from writing

abbrev pub if_settable : Instance → Option Instance
if_settable i = if is_settable i then Some i else None

-- the instance of a name, where it can be set
unfoldable pub settable_instance : SignState → List ℕ → Option Instance
settable_instance s name = option_and_then if_settable (instance_named s.table name)

-- what a binding writes
unfoldable pub write_at : SignState → VarBind → Option Write
write_at s binding = option_and_then (λ i. write_of s.config.face i binding.value) (settable_instance s binding.name)

-- a binding is a command
abbrev pub is_command_at : SignState → VarBind → Bool
is_command_at s binding = unwrap_or (option_map is_command (write_at s binding)) false

abbrev pub reads_modifying : RowReading → Bool
reads_modifying reading = is_modifying reading.row.status

-- a write to a field of a row that is not being modified
abbrev pub is_refused_field : TableModel → Write → Bool
is_refused_field table (SetField id field) = not (unwrap_or (option_map reads_modifying (row_read table id)) false)
is_refused_field table _ = false

-- why a SET is refused: the index of a binding, from 1, and an error status
pub record SetCause : Type 0 where
  pub index : ℕ
  pub status : ErrorStatus

-- What is wrong with a binding after others, in order (this profile): the name is not there or not to be set, for the
-- community that reads none is; the value; the name was given before; a second command; a field of a row that is not
-- being modified.
abbrev pub tests_at : SignState → Bool → List VarBind → VarBind → List (Bool × ErrorStatus)
tests_at s may_write before binding =
    (not may_write || is_none (settable_instance s binding.name), NoSuchName)
    ∷ (is_none (write_at s binding), BadValue)
    ∷ (is_among binding.name before, GenErr)
    ∷ (is_command_at s binding && list_any (is_command_at s) before, GenErr)
    ∷ (unwrap_or (option_map (is_refused_field s.table) (write_at s binding)) false, GenErr)
    ∷ []

abbrev pub cause_if : ℕ → Bool × ErrorStatus → Option SetCause
cause_if index test = if test.0 then Some (record { index = index; status = test.1 }) else None

abbrev pub causes_at : SignState → Bool → List VarBind → VarBind → List SetCause
causes_at s may_write before binding = filter_map (cause_if (length before + 1)) (tests_at s may_write before binding)

-- why these bindings are refused after others, all of it in order; each is judged on the state before the SET
abbrev pub causes_after : SignState → Bool → List VarBind → List VarBind → List SetCause
causes_after s may_write before [] = []
causes_after s may_write before (binding ∷ more) =
    causes_at s may_write before binding ++ causes_after s may_write (before ++ binding ∷ []) more

-- All that a SET is refused for; the first of it is reported.
unfoldable pub causes : SignState → Bool → List VarBind → List SetCause
causes s may_write bindings = causes_after s may_write [] bindings

-- ---- assignment

-- the table with a field written, where its row takes it
abbrev pub with_write : TableModel → Write → TableModel
with_write table (SetField id field) = unwrap_or (written table id field) table
with_write table _ = table

abbrev pub with_writes : TableModel → List Write → TableModel
with_writes table [] = table
with_writes table (write ∷ writes) = with_writes (with_write table write) writes

-- The state with all values assigned at once: no write depends on another, since no object and no field is named twice.
-- Commands assign nothing.
unfoldable pub assigned : SignState → List Write → SignState
assigned s writes = record s {
  table = with_writes s.table writes;
  settings = set_by s.settings writes;
}
