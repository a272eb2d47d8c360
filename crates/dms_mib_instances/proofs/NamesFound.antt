-- An instance that a table has is found by the octets of its name.
use Rattle.std.proofs.Common.{◌≡◌, inl, inr, ℕ, ◌+◌, ◌-◌, ◌<◌, true, List, Option, Some, None, refl, sym, ap, subst, ◌∙◌, arith}
use Rattle.std.specs.Cmp.Lexicographic.{bytes_decides}
use Rattle.std.proofs.lemmas.Bool.{cases_lt}
use Rattle.dms_wire_ber.specs.ObjectIdentifier.{name_octets}
use Rattle.dms_wire_ber.proofs.Unique.{name_is}
use Rattle.dms_codes.specs.declared.row_id.RowId.{RowId}
use Rattle.dms_mib.specs.declared.column.Column.{Column}
use Rattle.dms_mib.specs.declared.instance.Instance.{Instance}
use Rattle.dms_mib.specs.declared.instance.Instance.TheVariants.{Scalar, Cell}
use Rattle.dms_mib.specs.NameOctets.{IsNamed}
use Rattle.dms_mib.specs.Names.{name_of, column_number}
use Rattle.dms_mib.proofs.NameLaws.{object_named}
use Rattle.dms_table.specs.Rows.{TableModel}
use Rattle.dms_mib_instances.specs.declared.counts.Counts.{Counts}
use Rattle.dms_mib_instances.specs.Objects.{has_name, instance_named, IsInstance}
use Rattle.dms_mib_instances.specs.Places.{HasCounts, AreOctets}
use Rattle.dms_mib_instances.specs.NameReading.{IsFoundBy}
use Rattle.dms_mib_instances.proofs.CellOctets.{short_named, long_named}
use Rattle.dms_mib_instances.proofs.InOrder.{named_is}
use Rattle.dms_mib_instances.proofs.WhichInstances.{there_counted, number_few, memory_within}

-- a name that is an instance's has its octets
octets_of : (name : List ℕ) (i : Instance) (octets : List ℕ) → has_name name i ≡ true → IsNamed i octets → name_octets name ≡ octets
octets_of name i octets e named =
    ap name_octets (sym ((bytes_decides (name_of i) name).0 e)) ∙ sym (name_is (name_of i) octets named.is)

cell_found : (name : List ℕ) (found : Option Instance) (column : Column) (row : RowId) → IsFoundBy (name_octets name) found
    → row.memory < 128 → row.number < 256 → has_name name (Cell column row) ≡ true → found ≡ Some (Cell column row)
cell_found name found column row is memory number e =
    elim (cases_lt row.number 128) [
      | inl few ↦
          is.short column row.memory row.number memory few
          (octets_of name (Cell column row) _ e (short_named column (column_number column) row.memory row.number refl memory few))
      | inr many ↦
          let low = row.number - 128 in
          let few : low < 128 = omega arith in
          let same : 128 + low ≡ row.number = omega arith in
          let as_row : record { memory = row.memory; number = 128 + low } ≡ row = ap (λ n. record { memory = row.memory; number = n }) same in
          let named = long_named column (column_number column) row.memory low refl memory few in
          is.long column row.memory low memory few
          (octets_of name (Cell column (record { memory = row.memory; number = 128 + low })) _
          (subst (λ r. has_name name (Cell column r) ≡ true) (sym as_row) e) named)
          ∙ ap (λ r. Some (Cell column r)) as_row
    ]

pub there_found : (table : TableModel) (n : Counts) (name : List ℕ) (found : Option Instance) → HasCounts table n → AreOctets n
    → IsFoundBy (name_octets name) found → (i : Instance) → IsInstance table i → has_name name i ≡ true → found ≡ Some i
there_found table n name found has few is (Scalar object) there e =
    is.object object (octets_of name (Scalar object) _ e (object_named object _ _ refl refl))
there_found table n name found has few is (Cell column row) there e =
    let row_is = there_counted table n column row has there in
    let memory = memory_within n row row_is in
    cell_found name found column row is (omega arith) (number_few n few row row_is) e

-- a name that none has is not found
pub none_named : (table : TableModel) (name : List ℕ) → ((i : Instance) → IsInstance table i → has_name name i ≡ true → ⊥)
    → None ≡ instance_named table name
none_named table name none = by (instance_named table name) refl
  where
    by : (o : Option Instance) → instance_named table name ≡ o → None ≡ o
    by None h = refl
    by (Some i) h = let is = named_is table name i h in absurd (none i is.1 ((bytes_decides (name_of i) name).1 is.0))
