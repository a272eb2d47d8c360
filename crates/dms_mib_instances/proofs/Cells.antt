-- The cell that comes next in a column, and what comes after its last.
use Rattle.std.proofs.Common.{◌≡◌, ◌⊎◌, inl, inr, ℕ, ◌+◌, ◌<◌, ◌≤◌, true, List, [], ◌∷◌, Some, None, sym, subst, ◌∙◌, arith}
use Rattle.std.proofs.lemmas.Bool.Decides.{nat_tests}
use Rattle.dms_wire_ber.specs.NameOrder.{is_before}
use Rattle.dms_codes.specs.declared.row_id.RowId.{RowId}
use Rattle.dms_mib.specs.declared.column.Column.{Column}
use Rattle.dms_mib.specs.declared.instance.Instance.{Instance}
use Rattle.dms_mib.specs.declared.instance.Instance.TheVariants.{Scalar, Cell}
use Rattle.dms_mib.specs.Names.{below_dms, column_number, name_of, cell_name}
use Rattle.dms_table.specs.Rows.{TableModel}
use Rattle.dms_mib_instances.specs.declared.counts.Counts.{Counts}
use Rattle.dms_mib_instances.specs.Objects.{comes_after, next_instance, IsInstance}
use Rattle.dms_mib_instances.specs.Places.{HasCounts, AreOctets, row_place, IsRow, IsFirstRow}
use Rattle.dms_mib_instances.specs.NameReading.{column_at, octets_below, row_number_of}
use Rattle.dms_mib_instances.proofs.InOrder.{alike_is, smaller, larger}
use Rattle.dms_mib_instances.proofs.WhichInstances.{number_few, memory_within, counted_there, there_counted}
use Rattle.dms_mib_instances.proofs.Beginnings.{Begins, begins}
use Rattle.dms_mib_instances.proofs.Following.{first_is, same_below, objects_alike, before_cells, past_cells, in_column}

-- ---- the names of rows

pair_before : (m x g y : ℕ) → x < 256 → y < 256 → row_place m x < row_place g y → is_before (m ∷ x ∷ []) (g ∷ y ∷ []) ≡ true
pair_before m x g y few most h = grind (arith, nat_tests)

-- ---- the cell that comes next

same_column : (c d : Column) → column_number c ≡ column_number d → c ≡ d
same_column c d e = grind arith

pub cell_next : (table : TableModel) (n : Counts) → HasCounts table n → AreOctets n → (c : Column) (m x : ℕ) → x < 256 → (row : RowId)
    → IsFirstRow n (row_place m x) row → Some (Cell c row) ≡ next_instance table (cell_name c (record { memory = m; number = x }))
unfolding name_of
cell_next table n has few c m x most row is =
    sym (first_is table (below_dms (5 ∷ 8 ∷ 1 ∷ column_number c ∷ m ∷ x ∷ [])) (Cell c row)
    (record {
      there = counted_there table n c row has is.there;
      after = alike_is (column_number c) (m ∷ x ∷ []) (row.memory ∷ row.number ∷ []) ∙ pair_before m x row.memory row.number most number is.after;
      first = each;
    }))
  where
    number : row.number < 256
    number = number_few n few row is.there

    each : (j : Instance) → IsInstance table j → comes_after (below_dms (5 ∷ 8 ∷ 1 ∷ column_number c ∷ m ∷ x ∷ [])) j ≡ true
        → (Cell c row ≡ j) ⊎ (comes_after (name_of (Cell c row)) j ≡ true)
    each (Scalar object) there e =
        inr (objects_alike (column_number c ∷ row.memory ∷ row.number ∷ []) (column_number c ∷ m ∷ x ∷ []) object ∙ e)
    each (Cell d r) there e =
        let counted = there_counted table n d r has there in
        let first = is.first r counted in
        let small = number_few n few r counted in
        let same = same_column c d in
        grind (arith, nat_tests)

-- after the last row of a column
pub past_rows : (table : TableModel) (n : Counts) → HasCounts table n → AreOctets n → (c m x : ℕ) → x < 256
    → ((row : RowId) → IsRow n row → row_place row.memory row.number ≤ row_place m x)
    → next_instance table (below_dms (5 ∷ 8 ∷ 1 ∷ c ∷ m ∷ x ∷ [])) ≡ next_instance table (below_dms (5 ∷ 8 ∷ 1 ∷ (c + 1) ∷ []))
past_rows table n has few c m x most last =
    same_below table n has (5 ∷ 8 ∷ 1 ∷ c ∷ m ∷ x ∷ []) (5 ∷ 8 ∷ 1 ∷ (c + 1) ∷ []) (λ object. objects_alike (c ∷ m ∷ x ∷ []) ((c + 1) ∷ []) object)
    λ column row is.
    let small = number_few n few row is in
    let to = last row is in
    grind (arith, nat_tests)

-- a column's own name
pub column_itself : (table : TableModel) (n : Counts) → HasCounts table n → (c x : ℕ)
    → next_instance table (below_dms (5 ∷ 8 ∷ 1 ∷ c ∷ 0 ∷ x ∷ [])) ≡ next_instance table (below_dms (5 ∷ 8 ∷ 1 ∷ c ∷ []))
column_itself table n has c x =
    in_column table n has c (0 ∷ x ∷ []) [] λ row is.
    smaller 0 row.memory (x ∷ []) (row.number ∷ []) (omega (arith, (memory_within n row is).0))

of_number : (others : List ℕ) (y : ℕ) → 1 ≤ y → y < 256 → is_before (row_number_of others ∷ []) (y ∷ []) ≡ is_before others (y ∷ [])
of_number [] y some few = grind (arith, nat_tests)
of_number (a ∷ []) y some few = grind (arith, nat_tests)
of_number (a ∷ b ∷ others) y some few = grind (arith, nat_tests)

-- a row's type of memory, and what follows it
pub of_row : (table : TableModel) (n : Counts) → HasCounts table n → AreOctets n → (c m x : ℕ) (numbers rest : List ℕ)
    → octets_below numbers ≡ m ∷ rest → ((others : List ℕ) → octets_below others ≡ rest → x ≡ row_number_of others)
    → next_instance table (below_dms (5 ∷ 8 ∷ 1 ∷ c ∷ m ∷ x ∷ [])) ≡ next_instance table (below_dms (5 ∷ 8 ∷ 1 ∷ c ∷ numbers))
of_row table n has few c m x numbers rest e number =
    let from = begins numbers m rest e in
    subst (λ ns. next_instance table (below_dms (5 ∷ 8 ∷ 1 ∷ c ∷ m ∷ x ∷ [])) ≡ next_instance table (below_dms (5 ∷ 8 ∷ 1 ∷ c ∷ ns))) (sym from.are)
    (in_column table n has c (m ∷ x ∷ []) (from.first ∷ from.others) λ row is. each from row is)
  where
    each : (from : Begins numbers m rest) (row : RowId) → IsRow n row
        → is_before (m ∷ x ∷ []) (row.memory ∷ row.number ∷ []) ≡ is_before (from.first ∷ from.others) (row.memory ∷ row.number ∷ [])
    each from row is =
        let small = number_few n few row is in
        let memory = memory_within n row is in
        elim from.is [
          | inl one ↦
              let last = number from.others one.2 in
              let same = of_number from.others row.number is.from_1 small in
              grind (arith, nat_tests)
          | inr high ↦ grind (arith, nat_tests)
        ]

-- ---- columns

column_from : (c : Column) → 1 ≤ column_number c
column_from c = grind arith

pub column_to : (c : Column) → column_number c ≤ 9
column_to c = grind arith

column_past : (k : ℕ) → column_at k ≡ None → 1 ≤ k → 9 < k
column_past k none some = grind arith

-- after the last column
pub past_high : (table : TableModel) (n : Counts) → HasCounts table n → (k : ℕ) (a : List ℕ) → 9 < k
    → next_instance table (below_dms (5 ∷ 8 ∷ 1 ∷ k ∷ a)) ≡ next_instance table (below_dms (5 ∷ 9 ∷ []))
past_high table n has k a past =
    past_cells table n has 1 (k ∷ a) λ column row is.
    larger k (column_number column) a (row.memory ∷ row.number ∷ []) (omega (arith, past, column_to column))

-- so where the number is no column's
pub past_columns : (table : TableModel) (n : Counts) → HasCounts table n → (k : ℕ) (a : List ℕ) → column_at k ≡ None → 1 ≤ k
    → next_instance table (below_dms (5 ∷ 9 ∷ [])) ≡ next_instance table (below_dms (5 ∷ 8 ∷ 1 ∷ k ∷ a))
past_columns table n has k a none some = sym (past_high table n has k a (column_past k none some))

-- before the first column
pub column_zero : (table : TableModel) (n : Counts) → HasCounts table n → (a : List ℕ)
    → next_instance table (below_dms (5 ∷ 8 ∷ [])) ≡ next_instance table (below_dms (5 ∷ 8 ∷ 1 ∷ 0 ∷ a))
column_zero table n has a =
    sym (before_cells table n has (1 ∷ 0 ∷ a) λ m x column. smaller 0 (column_number column) a (m ∷ x ∷ []) (omega (arith, column_from column)))
