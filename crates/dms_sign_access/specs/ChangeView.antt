-- What the changes of the code write (this profile).
use Rattle.std.specs.Prelude.{ℕ, ◌<◌, ⊤}
use Rattle.dms_mib.specs.declared.objects.Group.{Group}
use Rattle.dms_mib.specs.declared.objects.Group.TheVariants.{MultiCfg}
use Rattle.dms_mib.specs.Objects.{scalar_row}
use Rattle.dms_table.specs.RowsView.{field_of}
use Rattle.dms_sign_access.specs.declared.access.Change.{Change}
use Rattle.dms_sign_access.specs.declared.access.Change.TheVariants as changes
use Rattle.dms_sign_access.specs.Access.{Write, SetNumber, SetCode, SetField, AskRow, Activate, SetRemaining}

abbrev pub write_by : Change → Write
write_by (changes.Number object number) = SetNumber object number
write_by (changes.Code object octets) = SetCode object octets.now
write_by (changes.Field id field) = SetField id (field_of field)
write_by (changes.Ask id ask) = AskRow id ask
write_by (changes.Activate octets) = Activate octets.now
write_by (changes.Remaining minutes) = SetRemaining minutes

-- the numbers of the defaults are octets
abbrev pub IsNumberOf : Group → ℕ → Type 0
IsNumberOf MultiCfg number = number < 256
IsNumberOf _ number = ⊤

abbrev pub IsChange : Change → Type 0
IsChange (changes.Number object number) = IsNumberOf (scalar_row object).group number
IsChange _ = ⊤
