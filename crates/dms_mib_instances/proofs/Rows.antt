-- What comes behind the last row of a type of memory.
use Rattle.std.proofs.Common.{◌≡◌, ℕ, ◌+◌, ◌<◌, ◌≤◌, Option, Some, None, arith}
use Rattle.std.specs.Option.{IfSome, IfNone}
use Rattle.dms_codes.specs.declared.row_id.RowId.{RowId}
use Rattle.dms_mib_instances.specs.declared.counts.Counts.{Counts}
use Rattle.dms_mib_instances.specs.Places.{AreOctets, row_place, IsRow, IsFirstRow}
use Rattle.dms_mib_instances.proofs.WhichInstances.{number_few}

-- no row of this type of memory has a number above this
abbrev pub IsLastRow : Counts → ℕ → ℕ → Type 0
IsLastRow n m x = (row : RowId) → IsRow n row → row.memory ≡ m → row.number < x + 1

past_place : (m x k y : ℕ) → y < 256 → (k ≡ m → y < x + 1) → row_place m x < row_place k y → row_place m 255 < row_place k y
past_place m x k y few last after = grind arith

within_place : (m x k y : ℕ) → k ≤ m → y < 256 → (k ≡ m → y < x + 1) → row_place k y ≤ row_place m x
within_place m x k y to few last = grind arith

pub first_behind : (n : Counts) → AreOctets n → (m x : ℕ) → x < 256 → IsLastRow n m x
    → (next : Option RowId) → IfSome next (λ row. IsFirstRow n (row_place m 255) row) → IfSome next (λ row. IsFirstRow n (row_place m x) row)
first_behind n few m x most last None some = tt
first_behind n few m x most last (Some row) some = record {
  there = some.there;
  after = omega (arith, some.after);
  first = λ other is after.
      some.first other is (past_place m x other.memory other.number (number_few n few other is) (last other is) after);
}

pub none_behind : (n : Counts) → AreOctets n → (m x : ℕ) → IsLastRow n m x
    → (next : Option RowId) → IfNone next ((row : RowId) → IsRow n row → row.memory ≤ m)
    → IfNone next ((row : RowId) → IsRow n row → row_place row.memory row.number ≤ row_place m x)
none_behind n few m x last None none = λ row is. within_place m x row.memory row.number (none row is) (number_few n few row is) (last row is)
none_behind n few m x last (Some next) none = tt
