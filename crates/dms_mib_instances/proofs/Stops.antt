-- What comes next, by the octets of the numbers below dms.
use Rattle.std.proofs.Common.{◌≡◌, inl, inr, ℕ, ◌+◌, ◌<◌, ◌≤◌, false, List, [], ◌∷◌, None, refl, sym, ap, ◌∙◌, arith}
use Rattle.dms_wire_ber.specs.NameOrder.{is_before}
use Rattle.dms_mib.specs.Names.{below_dms, column_number}
use Rattle.dms_table.specs.Rows.{TableModel}
use Rattle.dms_mib_instances.specs.declared.counts.Counts.{Counts}
use Rattle.dms_mib_instances.specs.Objects.{next_instance}
use Rattle.dms_mib_instances.specs.Places.{HasCounts}
use Rattle.dms_mib_instances.specs.NameReading.{octets_below, column_at}
use Rattle.dms_mib_instances.proofs.InOrder.{larger}
use Rattle.dms_mib_instances.proofs.Beginnings.{Begins, begins, ends, small_first}
use Rattle.dms_mib_instances.proofs.Following.{of_nothing, of_group, group_high, number_high, past_object, before_cells, past_cells}
use Rattle.dms_mib_instances.proofs.Cells.{past_columns, past_high, column_zero}

-- the name ends at dms
pub at_dms : (table : TableModel) (n : Counts) → HasCounts table n → (numbers : List ℕ) → octets_below numbers ≡ []
    → next_instance table (below_dms (0 ∷ 0 ∷ [])) ≡ next_instance table (below_dms numbers)
at_dms table n has numbers e = sym (of_nothing table n has) ∙ ap (λ ns. next_instance table (below_dms ns)) (sym (ends numbers e))

-- at a group
pub at_group : (table : TableModel) (n : Counts) → HasCounts table n → (numbers : List ℕ) (o : ℕ) → octets_below numbers ≡ o ∷ []
    → next_instance table (below_dms (o ∷ 0 ∷ [])) ≡ next_instance table (below_dms numbers)
at_group table n has numbers o e =
    let from = begins numbers o [] e in
    elim from.is [
      | inl one ↦
          sym (of_group table n has o)
          ∙ ap (λ ns. next_instance table (below_dms ns)) (ap (λ ns. o ∷ ns) (sym (ends from.others one.2)) ∙ ap (λ k. k ∷ from.others) (sym one.0) ∙ sym from.are)
      | inr high ↦
          group_high table n has o from.first (0 ∷ []) from.others high.1 high.0 ∙ ap (λ ns. next_instance table (below_dms ns)) (sym from.are)
    ]

-- the octets of a group and a number, the next of which are those of the last numbers
two_octets : (table : TableModel) (n : Counts) → HasCounts table n → (numbers : List ℕ) (o p s : ℕ) (more : List ℕ)
    → octets_below numbers ≡ o ∷ p ∷ more → (128 ≤ p → 128 ≤ s)
    → (p < 128 → (others : List ℕ) → octets_below others ≡ more → next_instance table (below_dms (o ∷ s ∷ [])) ≡ next_instance table (below_dms (o ∷ p ∷ others)))
    → next_instance table (below_dms (o ∷ s ∷ [])) ≡ next_instance table (below_dms numbers)
two_octets table n has numbers o p s more e high few =
    let from = begins numbers o (p ∷ more) e in
    elim from.is [
      | inl one ↦
          let second = begins from.others p more one.2 in
          let are : from.first ∷ from.others ≡ o ∷ second.first ∷ second.others = ap (λ k. k ∷ from.others) one.0 ∙ ap (λ ns. o ∷ ns) second.are in
          elim second.is [
            | inl two ↦
                few (omega (arith, two.0, two.1)) second.others two.2
                ∙ ap (λ ns. next_instance table (below_dms ns)) (ap (λ k. o ∷ k ∷ second.others) (sym two.0) ∙ sym are ∙ sym from.are)
            | inr many ↦
                number_high table n has o s second.first [] second.others (high many.1) many.0
                ∙ ap (λ ns. next_instance table (below_dms ns)) (sym are ∙ sym from.are)
          ]
      | inr many ↦
          group_high table n has o from.first (s ∷ []) from.others many.1 many.0 ∙ ap (λ ns. next_instance table (below_dms ns)) (sym from.are)
    ]

-- at an object
pub at_object : (table : TableModel) (n : Counts) → HasCounts table n → (numbers : List ℕ) (o p : ℕ) → octets_below numbers ≡ o ∷ p ∷ []
    → next_instance table (below_dms (o ∷ p ∷ [])) ≡ next_instance table (below_dms numbers)
at_object table n has numbers o p e =
    two_octets table n has numbers o p p [] e (λ h. h) λ few others none. ap (λ ns. next_instance table (below_dms (o ∷ p ∷ ns))) (sym (ends others none))

-- behind it
pub behind_object : (table : TableModel) (n : Counts) → HasCounts table n → (numbers : List ℕ) (o p s q : ℕ) (more : List ℕ)
    → octets_below numbers ≡ o ∷ p ∷ q ∷ more → (p < 128 → s ≡ p + 1) → p ≤ s → (o ≡ 5 → p ≡ 8 → ⊥)
    → next_instance table (below_dms (o ∷ s ∷ [])) ≡ next_instance table (below_dms numbers)
behind_object table n has numbers o p s q more e next least other =
    two_octets table n has numbers o p s (q ∷ more) e (λ h. omega (arith, h, least)) λ few others rest.
    let from = begins others q more rest in
    ap (λ s. next_instance table (below_dms (o ∷ s ∷ []))) (next few) ∙ sym (past_object table n has o p from.first from.others other)
    ∙ ap (λ ns. next_instance table (below_dms (o ∷ p ∷ ns))) (sym from.are)

-- ---- below the table

pub at_table : (table : TableModel) (n : Counts) → HasCounts table n → (numbers : List ℕ) → octets_below numbers ≡ []
    → next_instance table (below_dms (5 ∷ 8 ∷ [])) ≡ next_instance table (below_dms (5 ∷ 8 ∷ numbers))
at_table table n has numbers e = ap (λ ns. next_instance table (below_dms (5 ∷ 8 ∷ ns))) (sym (ends numbers e))

-- 0 is before the entry
pub before_entry : (table : TableModel) (n : Counts) → HasCounts table n → (numbers more : List ℕ) → octets_below numbers ≡ 0 ∷ more
    → next_instance table (below_dms (5 ∷ 8 ∷ [])) ≡ next_instance table (below_dms (5 ∷ 8 ∷ numbers))
before_entry table n has numbers more e =
    let first = small_first numbers 0 more e (omega arith) in
    sym (before_cells table n has (0 ∷ first.0) (λ m x column. refl)) ∙ ap (λ ns. next_instance table (below_dms (5 ∷ 8 ∷ ns))) (sym first.1)

-- and what is neither 0 nor 1 behind it
pub behind_entry : (table : TableModel) (n : Counts) → HasCounts table n → (numbers : List ℕ) (o : ℕ) (more : List ℕ) → octets_below numbers ≡ o ∷ more → 2 ≤ o
    → next_instance table (below_dms (5 ∷ 9 ∷ [])) ≡ next_instance table (below_dms (5 ∷ 8 ∷ numbers))
behind_entry table n has numbers o more e many =
    let from = begins numbers o more e in
    sym (past_cells table n has from.first from.others λ column row is. each from (column_number column ∷ row.memory ∷ row.number ∷ []))
    ∙ ap (λ ns. next_instance table (below_dms (5 ∷ 8 ∷ ns))) (sym from.are)
  where
    each : (from : Begins numbers o more) (c : List ℕ) → is_before (from.first ∷ from.others) (1 ∷ c) ≡ false
    each from c =
        elim from.is [
          | inl one ↦ larger from.first 1 from.others c (omega (arith, one.0, many))
          | inr high ↦ larger from.first 1 from.others c (omega (arith, high.0))
        ]

-- the entry itself
pub at_entry : (table : TableModel) (n : Counts) → HasCounts table n → (numbers : List ℕ) → octets_below numbers ≡ []
    → next_instance table (below_dms (5 ∷ 8 ∷ [])) ≡ next_instance table (below_dms (5 ∷ 8 ∷ 1 ∷ numbers))
at_entry table n has numbers e =
    sym (before_cells table n has (1 ∷ []) (λ m x column. refl)) ∙ ap (λ ns. next_instance table (below_dms (5 ∷ 8 ∷ 1 ∷ ns))) (sym (ends numbers e))

pub before_columns : (table : TableModel) (n : Counts) → HasCounts table n → (numbers : List ℕ) (o : ℕ) (more : List ℕ) → octets_below numbers ≡ o ∷ more
    → o ≡ 0 → next_instance table (below_dms (5 ∷ 8 ∷ [])) ≡ next_instance table (below_dms (5 ∷ 8 ∷ 1 ∷ numbers))
before_columns table n has numbers o more e zero =
    let first = small_first numbers 0 more (e ∙ ap (λ k. k ∷ more) zero) (omega arith) in
    column_zero table n has first.0 ∙ ap (λ ns. next_instance table (below_dms (5 ∷ 8 ∷ 1 ∷ ns))) (sym first.1)

pub behind_columns : (table : TableModel) (n : Counts) → HasCounts table n → (numbers : List ℕ) (o : ℕ) (more : List ℕ) → octets_below numbers ≡ o ∷ more
    → column_at o ≡ None → 1 ≤ o → next_instance table (below_dms (5 ∷ 9 ∷ [])) ≡ next_instance table (below_dms (5 ∷ 8 ∷ 1 ∷ numbers))
behind_columns table n has numbers o more e none some =
    let from = begins numbers o more e in
    each from ∙ ap (λ ns. next_instance table (below_dms (5 ∷ 8 ∷ 1 ∷ ns))) (sym from.are)
  where
    each : (from : Begins numbers o more)
        → next_instance table (below_dms (5 ∷ 9 ∷ [])) ≡ next_instance table (below_dms (5 ∷ 8 ∷ 1 ∷ from.first ∷ from.others))
    each from =
        elim from.is [
          | inl one ↦ past_columns table n has from.first from.others (ap column_at one.0 ∙ none) (omega (arith, one.0, some))
          | inr high ↦ sym (past_high table n has from.first from.others (omega (arith, high.0)))
        ]
