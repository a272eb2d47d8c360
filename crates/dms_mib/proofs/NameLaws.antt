-- The octets that are written of a name are those of its content.
use Rattle.std.proofs.Math.Seq.{take-append_seam}
use Rattle.std.proofs.Common.{append-nil, take, ◌≡◌, ℕ, ◌^◌, ◌<◌, ◌≤◌, length, length-append, List, [], ◌∷◌, ◌++◌, refl, sym, ◌∙◌, ap, subst, arith}
use Rattle.dms_wire_ber.specs.ObjectIdentifier.{IsName}
use Rattle.dms_wire_ber.specs.ObjectIdentifier.{sub_identifier_octets, name_octets}
use Rattle.dms_wire_ber.specs.ObjectIdentifier.{IsNameInLimits}
use Rattle.dms_wire_ber.specs.NameReading.{numbers_of}
use Rattle.dms_wire_ber.proofs.CanonicalNames.{name_spelled}
use Rattle.dms_wire_ber.proofs.Names.{name_only}
use Rattle.std.specs.Int.Digits.{AllBelowBase}
use Rattle.std.specs.List.{flat_map}
use Rattle.dms_codes.specs.declared.row_id.RowId.{RowId}
use Rattle.dms_mib.specs.declared.column.Column.{Column}
use Rattle.dms_mib.specs.declared.scalar.Scalar.{Scalar}
use Rattle.dms_mib.specs.declared.instance.Instance.TheVariants as kinds
use Rattle.dms_mib.specs.Names.{scalar_number, column_number, name_of, cell_name, object_name, below_dms}
use Rattle.dms_mib.specs.NameOctets.{IsNamed}
use Rattle.dms_mib.proofs.SubIdentifiers.{one_octet}

-- ---- objects

object_octets : (group number : ℕ) → group < 128 → number < 128
    → name_octets (object_name group number) ≡ 43 ∷ 6 ∷ 1 ∷ 4 ∷ 1 ∷ 137 ∷ 54 ∷ 4 ∷ 2 ∷ 3 ∷ group ∷ number ∷ 0 ∷ []
unfolding name_octets
object_octets group number of_group of_number = rw (one_octet group of_group, one_octet number of_number) refl

object_in_limits : (group number : ℕ) → group < 128 → number < 128 → IsNameInLimits (object_name group number)
object_in_limits group number of_group of_number =
    (omega arith, λ low. omega arith, omega arith, (omega arith, (omega arith, (omega arith, (omega arith, (omega arith, (omega arith, (omega arith, (omega arith, (omega arith, (omega arith, (omega arith, tt))))))))))), omega arith)

object_few : (object : Scalar) → ((scalar_number object).0 < 128) × ((scalar_number object).1 < 128)
object_few object = (grind arith, grind arith)

pub object_named : (object : Scalar) (number : ℕ × ℕ) (octets : List ℕ) → number ≡ scalar_number object
    → octets ≡ 43 ∷ 6 ∷ 1 ∷ 4 ∷ 1 ∷ 137 ∷ 54 ∷ 4 ∷ 2 ∷ 3 ∷ number.0 ∷ number.1 ∷ 0 ∷ [] → IsNamed (kinds.Scalar object) octets
unfolding name_of
object_named object number octets is written =
    let few : ((scalar_number object).0 < 128) × ((scalar_number object).1 < 128) = object_few object in
    let name : List ℕ = object_name (scalar_number object).0 (scalar_number object).1 in
    let same : octets ≡ name_octets name =
    written ∙ ap (λ (n : ℕ × ℕ). 43 ∷ 6 ∷ 1 ∷ 4 ∷ 1 ∷ 137 ∷ 54 ∷ 4 ∷ 2 ∷ 3 ∷ n.0 ∷ n.1 ∷ 0 ∷ []) is ∙ sym (object_octets (scalar_number object).0 (scalar_number object).1 few.0 few.1) in
    record {
      is = subst (λ xs. IsName name xs) (sym same) (name_spelled name (object_in_limits (scalar_number object).0 (scalar_number object).1 few.0 few.1));
    }

-- ---- cells

column_few : (column : Column) → column_number column < 128
column_few column = grind arith

cell_octets : (column : Column) (row : RowId)
    → name_octets (cell_name column row)
    ≡ (43 ∷ 6 ∷ 1 ∷ 4 ∷ 1 ∷ 137 ∷ 54 ∷ 4 ∷ 2 ∷ 3 ∷ 5 ∷ 8 ∷ 1 ∷ column_number column ∷ []) ++ sub_identifier_octets row.memory ++ sub_identifier_octets row.number
unfolding name_octets
cell_octets column row =
    rw (one_octet (column_number column) (column_few column), append-nil (sub_identifier_octets row.number)) refl

cell_in_limits : (column : Column) (row : RowId) → row.memory < 256 → row.number < 65536 → IsNameInLimits (cell_name column row)
cell_in_limits column row memory number =
    let few : column_number column < 128 = column_few column in
    (omega arith, λ low. omega arith, omega arith, (omega arith, (omega arith, (omega arith, (omega arith, (omega arith, (omega arith, (omega arith, (omega arith, (omega arith, (omega arith, (omega arith, (omega arith, (omega arith, (omega arith, tt)))))))))))))), omega arith)

pub cell_named : (column : Column) (row : RowId) (octets : List ℕ) → row.memory < 256 → row.number < 65536
    → octets ≡ (43 ∷ 6 ∷ 1 ∷ 4 ∷ 1 ∷ 137 ∷ 54 ∷ 4 ∷ 2 ∷ 3 ∷ 5 ∷ 8 ∷ 1 ∷ column_number column ∷ []) ++ sub_identifier_octets row.memory ++ sub_identifier_octets row.number
    → IsNamed (kinds.Cell column row) octets
unfolding name_of
cell_named column row octets memory number written = record {
  is = subst (λ xs. IsName (cell_name column row) xs) (cell_octets column row ∙ sym written) (name_spelled (cell_name column row) (cell_in_limits column row memory number));
}

-- ---- numbers below 128, and one more

small_octets : (ns : List ℕ) (last : ℕ) → AllBelowBase 128 ns → flat_map sub_identifier_octets (ns ++ last ∷ []) ≡ ns ++ sub_identifier_octets last
small_octets [] last small = append-nil (sub_identifier_octets last)
small_octets (n ∷ ns) last small =
    ap (λ octets. octets ++ flat_map sub_identifier_octets (ns ++ last ∷ [])) (one_octet n small.0) ∙ ap (λ octets. n ∷ octets) (small_octets ns last small.1)

all_below : (ns : List ℕ) (last : ℕ) → AllBelowBase 128 ns → last < 65536 → AllBelowBase (2 ^ 32) (ns ++ last ∷ [])
all_below [] last small few = (omega arith, tt)
all_below (n ∷ ns) last small few = let first : n < 128 = small.0 in (omega arith, all_below ns last small.1 few)

numbered_in_limits : (ns : List ℕ) (last : ℕ) → length ns ≤ 7 → AllBelowBase 128 ns → last < 65536 → IsNameInLimits (below_dms (ns ++ last ∷ []))
numbered_in_limits ns last few small number =
    (omega arith, λ low. omega arith, omega arith, (omega arith, (omega arith, (omega arith, (omega arith, (omega arith, (omega arith, (omega arith, (omega arith, all_below ns last small number)))))))), omega (arith, length-append ns (last ∷ [])))

numbered_octets : (ns : List ℕ) (last : ℕ) → AllBelowBase 128 ns
    → name_octets (below_dms (ns ++ last ∷ [])) ≡ 43 ∷ 6 ∷ 1 ∷ 4 ∷ 1 ∷ 137 ∷ 54 ∷ 4 ∷ 2 ∷ 3 ∷ (ns ++ sub_identifier_octets last)
unfolding name_octets
numbered_octets ns last small = ap (λ octets. 43 ∷ 6 ∷ 1 ∷ 4 ∷ 1 ∷ 137 ∷ 54 ∷ 4 ∷ 2 ∷ 3 ∷ octets) (small_octets ns last small)

pub numbered : (ns octets : List ℕ) (last : ℕ) → length ns ≤ 7 → AllBelowBase 128 ns → last < 65536
    → octets ≡ 43 ∷ 6 ∷ 1 ∷ 4 ∷ 1 ∷ 137 ∷ 54 ∷ 4 ∷ 2 ∷ 3 ∷ (ns ++ sub_identifier_octets last)
    → IsName (below_dms (ns ++ last ∷ [])) octets × (numbers_of octets ≡ below_dms (ns ++ last ∷ []))
numbered ns octets last few small number is =
    let name : List ℕ = below_dms (ns ++ last ∷ []) in
    let spelled : IsName name octets =
    subst (λ xs. IsName name xs) (numbered_octets ns last small ∙ sym is) (name_spelled name (numbered_in_limits ns last few small number)) in
    (spelled, (name_only name octets spelled).1)

-- ---- octets with others behind them

pub padded : (n : ℕ) (octets front behind : List ℕ) → n ≡ length octets → front ≡ octets → take n (front ++ behind) ≡ octets
padded n octets front behind is same =
    ap (λ k. take k (front ++ behind)) is ∙ ap (λ xs. take (length octets) (xs ++ behind)) same ∙ take-append_seam octets behind
