-- Names of cells of which the row's numbers have one octet each.
use Rattle.std.proofs.Common.{◌≡◌, ℕ, ◌<◌, [], ◌∷◌, refl, arith}
use Rattle.dms_wire_ber.specs.ObjectIdentifier.{IsName}
use Rattle.dms_codes.specs.declared.row_id.RowId.{RowId}
use Rattle.dms_mib.specs.declared.column.Column.{Column}
use Rattle.dms_mib.specs.Names.{cell_name, column_number, name_of}
use Rattle.dms_mib.proofs.NameLaws.{cell_named}
use Rattle.dms_mib.proofs.SubIdentifiers.{one_octet}

pub short_cell_named : (column : Column) (row : RowId) (number : ℕ) → row.memory < 128 → row.number < 128 → number ≡ column_number column
    → IsName (cell_name column row) (43 ∷ 6 ∷ 1 ∷ 4 ∷ 1 ∷ 137 ∷ 54 ∷ 4 ∷ 2 ∷ 3 ∷ 5 ∷ 8 ∷ 1 ∷ number ∷ row.memory ∷ row.number ∷ [])
unfolding name_of
short_cell_named column row number m n is =
    (cell_named column row (43 ∷ 6 ∷ 1 ∷ 4 ∷ 1 ∷ 137 ∷ 54 ∷ 4 ∷ 2 ∷ 3 ∷ 5 ∷ 8 ∷ 1 ∷ number ∷ row.memory ∷ row.number ∷ []) (omega (arith, m)) (omega (arith, n))
    (rw (is, one_octet row.memory m, one_octet row.number n) refl)).is
