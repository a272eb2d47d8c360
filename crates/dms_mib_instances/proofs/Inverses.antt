-- An object is that of its number, and a column too.
use Rattle.std.proofs.Common.{◌≡◌, Some, arith}
use Rattle.dms_mib.specs.declared.column.Column.{Column}
use Rattle.dms_mib.specs.declared.scalar.Scalar.{Scalar}
use Rattle.dms_mib.specs.Names.{column_number, scalar_number}
use Rattle.dms_mib_instances.specs.NameReading.{column_at, scalar_at}

pub column_back : (column : Column) → column_at (column_number column) ≡ Some column
column_back column = grind arith

pub scalar_back : (object : Scalar) → scalar_at (scalar_number object).0 (scalar_number object).1 ≡ Some object
scalar_back object = grind arith
