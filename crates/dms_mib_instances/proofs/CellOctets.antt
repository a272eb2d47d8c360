-- The octets of the names of cells whose type of memory has one octet.
use Rattle.std.proofs.Common.{◌≡◌, ℕ, ◌<◌, ◌+◌, ◌/◌, ◌%◌, ◌∷◌, [], arith, refl}
use Rattle.dms_mib.specs.declared.column.Column.{Column}
use Rattle.dms_mib.specs.declared.instance.Instance.TheVariants.{Cell}
use Rattle.dms_mib.specs.Names.{column_number}
use Rattle.dms_mib.specs.NameOctets.{IsNamed}
use Rattle.dms_mib.proofs.NameLaws.{cell_named}
use Rattle.dms_mib.proofs.SubIdentifiers.{one_octet}
use Rattle.dms_wire_ber.proofs.SubIdentifiers.{two_octets}

-- sixteen octets, where the number has one too
pub short_named : (column : Column) (first memory number : ℕ) → first ≡ column_number column → memory < 128 → number < 128
    → IsNamed (Cell column (record { memory = memory; number = number }))
    (43 ∷ 6 ∷ 1 ∷ 4 ∷ 1 ∷ 137 ∷ 54 ∷ 4 ∷ 2 ∷ 3 ∷ 5 ∷ 8 ∷ 1 ∷ first ∷ memory ∷ number ∷ [])
short_named column first memory number is few_memory few_number =
    cell_named column (record { memory = memory; number = number }) _ (omega arith) (omega arith)
    (rw (one_octet memory few_memory, one_octet number few_number, is) refl)

-- seventeen, where it has two
pub long_named : (column : Column) (first memory low : ℕ) → first ≡ column_number column → memory < 128 → low < 128
    → IsNamed (Cell column (record { memory = memory; number = 128 + low }))
    (43 ∷ 6 ∷ 1 ∷ 4 ∷ 1 ∷ 137 ∷ 54 ∷ 4 ∷ 2 ∷ 3 ∷ 5 ∷ 8 ∷ 1 ∷ first ∷ memory ∷ 129 ∷ low ∷ [])
long_named column first memory low is few_memory few_low =
    let high : (128 + low) / 128 % 128 ≡ 1 = omega arith in
    let last : (128 + low) % 128 ≡ low = omega arith in
    cell_named column (record { memory = memory; number = 128 + low }) _ (omega arith) (omega arith)
    (rw (one_octet memory few_memory, two_octets (128 + low) (omega arith) (omega arith), high, last, is) refl)
