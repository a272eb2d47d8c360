-- The names of the objects of a sign (NTCIP 1203, dms).
use Rattle.std.specs.Prelude.{ℕ, List, [], ◌∷◌, ◌++◌}
use Rattle.dms_mib.specs.declared.column.Column.{Column}
use Rattle.dms_codes.specs.declared.row_id.RowId.{RowId}
use Rattle.dms_mib.specs.declared.scalar.Scalar.{Scalar}
use Rattle.dms_mib.specs.declared.scalar.Scalar.TheVariants.{ActivateMessage, ActivateMsgError}
use Rattle.dms_mib.specs.declared.instance.Instance.{Instance}
use Rattle.dms_mib.specs.declared.objects.Group.TheVariants.{DmsMessageEntry}
use Rattle.dms_mib.specs.declared.instance.Instance.TheVariants as kinds
use Rattle.dms_mib.specs.Objects.{group_number, node_numbers, scalar_row, column_row}

-- below dms, 1.3.6.1.4.1.1206.4.2.3
abbrev pub below_dms : List ℕ → List ℕ
below_dms numbers = 1 ∷ 3 ∷ 6 ∷ 1 ∷ 4 ∷ 1 ∷ 1206 ∷ 4 ∷ 2 ∷ 3 ∷ numbers

-- the instance 0 of the object of this number in this group
abbrev pub object_name : (group number : ℕ) → List ℕ
object_name group number = below_dms (group ∷ number ∷ 0 ∷ [])

-- a column's number in its row of the table
abbrev pub column_number : Column → ℕ
column_number column = (column_row column).number

-- a column of a row of dmsMessageTable, whose index is the row's type of memory and its number there
abbrev pub cell_name : Column → RowId → List ℕ
cell_name column row =
    below_dms (node_numbers DmsMessageEntry ++ column_number column ∷ row.memory ∷ row.number ∷ [])

-- the number of an object below dms: its group, and its number there
abbrev pub scalar_number : Scalar → ℕ × ℕ
scalar_number object = (group_number (scalar_row object).group, (scalar_row object).number)

-- the name of an object's only instance, 0
abbrev pub scalar_name : Scalar → List ℕ
scalar_name object = object_name (scalar_number object).0 (scalar_number object).1

abbrev pub activate_message : List ℕ
activate_message = scalar_name ActivateMessage

abbrev pub activate_message_error : List ℕ
activate_message_error = scalar_name ActivateMsgError

-- an object has the instance 0; a column's instances are named by the rows
unfoldable pub name_of : Instance → List ℕ
name_of (kinds.Scalar object) = scalar_name object
name_of (kinds.Cell column row) = cell_name column row
