-- The instances of a sign stand in the strict order of their names; what the walk finds.
use Rattle.std.proofs.Common.{◌≡◌, ◌⊎◌, inl, inr, ℕ, zero, suc, ◌+◌, ◌<◌, Bool, true, false, ◌&&◌, nat_eq, List, [], ◌∷◌, ◌++◌, map, flat_map, find, Option, Some, None, slice_get, refl, sym, ap, subst, ◌∙◌, arith}
use Rattle.std.specs.Cmp.Lexicographic.{pointwise, bytes_decides}
use Rattle.std.specs.List.{range_with_len}
use Rattle.std.proofs.lemmas.Bool.Decides.{nat_tests}
use Rattle.std.proofs.lemmas.Bool.{and_parts, and_from, both_ways, cond-true, cond-false, false_from_ne_true}
use Rattle.dms_wire_ber.proofs.Elements.{chosen}
use Rattle.std.proofs.lemmas.Option.{same_Some}
use Rattle.dms_wire_ber.specs.NameOrder.{is_before}
use Rattle.dms_wire_ber.proofs.NameOrderLaws.{before_trans, not_before_itself}
use Rattle.dms_mib.specs.declared.column.Column.{Column}
use Rattle.dms_codes.specs.declared.memory.Memory.{Memory}
use Rattle.dms_codes.specs.declared.row_id.RowId.{RowId}
use Rattle.dms_codes.specs.Memory.{memory_number}
use Rattle.dms_mib.specs.declared.objects.Instances.{Instances}
use Rattle.dms_mib.specs.declared.objects.Instances.TheVariants.{One, EachRow}
use Rattle.dms_mib.specs.Objects.{every_object}
use Rattle.dms_mib.specs.Names.{below_dms, column_number, scalar_number}
use Rattle.dms_table.specs.Rows.{TableModel}
use Rattle.dms_mib.specs.declared.instance.Instance.{Instance}
use Rattle.dms_mib.specs.declared.instance.Instance.TheVariants.{Cell}
use Rattle.dms_mib.specs.Names.{name_of}
use Rattle.dms_mib_instances.specs.Objects.{every_memory, count_in, rows_in, row_ids, cells, instances_of, instances, has_name, comes_after, instance_named, next_instance, IsInstance, FirstAfter}

-- ---- the order of names

before_differs : (a b : List ℕ) → is_before a b ≡ true → pointwise nat_eq a b ≡ false
before_differs a b h =
    false_from_ne_true (pointwise nat_eq a b) λ e.
    both_ways (is_before a a) (not_before_itself a) (subst (λ b. is_before a b ≡ true) (sym ((bytes_decides a b).0 e)) h)

-- names that begin alike
pub alike_is : (n : ℕ) (a b : List ℕ) → is_before (n ∷ a) (n ∷ b) ≡ is_before a b
alike_is n a b = grind (arith, nat_tests)

alike : (n : ℕ) (a b : List ℕ) → is_before a b ≡ true → is_before (n ∷ a) (n ∷ b) ≡ true
alike n a b h = alike_is n a b ∙ h

pub smaller : (m n : ℕ) (a b : List ℕ) → m < n → is_before (m ∷ a) (n ∷ b) ≡ true
smaller m n a b h = grind (arith, nat_tests)

pub larger : (m n : ℕ) (a b : List ℕ) → n < m → is_before (m ∷ a) (n ∷ b) ≡ false
larger m n a b h = grind (arith, nat_tests)

-- ---- rising names

-- the names of a list rise, above low and below high
abbrev pub rises : {X : Type 0} → (X → List ℕ) → List ℕ → List X → List ℕ → Bool
rises name low [] high = is_before low high
rises name low (x ∷ xs) high = is_before low (name x) && rises name (name x) xs high

from_below : {X : Type 0} (name : X → List ℕ) (lower low : List ℕ) (xs : List X) (high : List ℕ) → is_before lower low ≡ true
    → rises name low xs high ≡ true → rises name lower xs high ≡ true
from_below name lower low [] high h r = before_trans lower low high h r
from_below name lower low (x ∷ xs) high h r =
    let parts = and_parts (is_before low (name x)) (rises name (name x) xs high) r in
    and_from (is_before lower (name x)) (rises name (name x) xs high) (before_trans lower low (name x) h parts.0) parts.1

joined : {X : Type 0} (name : X → List ℕ) (low : List ℕ) (xs : List X) (middle : List ℕ) (ys : List X) (high : List ℕ)
    → rises name low xs middle ≡ true
    → rises name middle ys high ≡ true → rises name low (xs ++ ys) high ≡ true
joined name low [] middle ys high h r = from_below name low middle ys high h r
joined name low (x ∷ xs) middle ys high h r =
    let parts = and_parts (is_before low (name x)) (rises name (name x) xs middle) h in
    and_from (is_before low (name x)) (rises name (name x) (xs ++ ys) high) parts.0 (joined name (name x) xs middle ys high parts.1 r)

mapped : {X Y : Type 0} (name : Y → List ℕ) (f : X → Y) (low : List ℕ) (xs : List X) (high : List ℕ)
    → rises name low (map f xs) high ≡ rises (λ x. name (f x)) low xs high
mapped name f low [] high = refl
mapped name f low (x ∷ xs) high = ap (λ t. is_before low (name (f x)) && t) (mapped name f (name (f x)) xs high)

-- names that begin alike rise as what follows does
under : {X : Type 0} (name : X → List ℕ) (n : ℕ) (low : List ℕ) (xs : List X) (high : List ℕ) → rises name low xs high ≡ true
    → rises (λ x. n ∷ name x) (n ∷ low) xs (n ∷ high) ≡ true
under name n low [] high r = alike n low high r
under name n low (x ∷ xs) high r =
    let parts = and_parts (is_before low (name x)) (rises name (name x) xs high) r in
    and_from (is_before (n ∷ low) (n ∷ name x)) (rises (λ x. n ∷ name x) (n ∷ name x) xs (n ∷ high)) (alike n low (name x) parts.0)
    (under name n (name x) xs high parts.1)

under_all : {X : Type 0} (name : X → List ℕ) (front low : List ℕ) (xs : List X) (high : List ℕ) → rises name low xs high ≡ true
    → rises (λ x. front ++ name x) (front ++ low) xs (front ++ high) ≡ true
under_all name [] low xs high r = r
under_all name (n ∷ front) low xs high r = under (λ x. front ++ name x) n (front ++ low) xs (front ++ high) (under_all name front low xs high r)

-- pieces, each between its start and its stop, follow one another
abbrev stacked : {X : Type 0} (start stop : X → List ℕ) → List ℕ → List X → List ℕ → Bool
stacked start stop low [] high = is_before low high
stacked start stop low (x ∷ xs) high = is_before low (start x) && stacked start stop (stop x) xs high

pieces : {X Y : Type 0} (name : Y → List ℕ) (f : X → List Y) (start stop : X → List ℕ) → ((x : X) → rises name (start x) (f x) (stop x) ≡ true)
    → (low : List ℕ) (xs : List X) (high : List ℕ) → stacked start stop low xs high ≡ true → rises name low (flat_map f xs) high ≡ true
pieces name f start stop each low [] high h = h
pieces name f start stop each low (x ∷ xs) high h =
    let parts = and_parts (is_before low (start x)) (stacked start stop (stop x) xs high) h in
    joined name low (f x) (stop x) (flat_map f xs) high (from_below name low (start x) (f x) (stop x) parts.0 (each x))
    (pieces name f start stop each (stop x) xs high parts.1)

-- ---- the instances

numbers_rise : (k n : ℕ) (low : List ℕ) (high : ℕ) → is_before low (k ∷ []) ≡ true → k + n < high
    → rises (λ (j : ℕ). j ∷ []) low (range_with_len k n) (high ∷ []) ≡ true
numbers_rise k zero low high h g = before_trans low (k ∷ []) (high ∷ []) h (smaller k high [] [] (omega arith))
numbers_rise k (suc n) low high h g =
    let rest = numbers_rise (k + 1) n (k ∷ []) high (smaller k (k + 1) [] [] (omega arith)) (omega arith) in
    and_from (is_before low (k ∷ [])) (rises (λ (j : ℕ). j ∷ []) (k ∷ []) (range_with_len (k + 1) n) (high ∷ [])) h rest

-- a row's place in dmsMessageTable
abbrev index : RowId → List ℕ
index row = row.memory ∷ row.number ∷ []

abbrev past : TableModel → Memory → List ℕ
past table memory = memory_number memory ∷ (count_in table memory + 2) ∷ []

rows_rise : (table : TableModel) (memory : Memory) → rises index (memory_number memory ∷ []) (rows_in table memory) (past table memory) ≡ true
rows_rise table memory =
    let count = count_in table memory in
    mapped index (λ number. record { memory = memory_number memory; number = number }) (memory_number memory ∷ []) (range_with_len 1 count) (past table memory)
    ∙ under (λ (j : ℕ). j ∷ []) (memory_number memory) [] (range_with_len 1 count) ((count + 2) ∷ []) (numbers_rise 1 count [] (count + 2) refl (omega arith))

all_rows_rise : (table : TableModel) → rises index [] (row_ids table) (8 ∷ []) ≡ true
all_rows_rise table =
    pieces index (rows_in table) (λ memory. memory_number memory ∷ []) (past table) (rows_rise table) [] every_memory (8 ∷ []) refl

-- below dmsMessageEntry
abbrev entry : List ℕ → List ℕ
entry numbers = below_dms (5 ∷ 8 ∷ 1 ∷ numbers)

cells_rise : (table : TableModel) (c : Column)
    → rises name_of (entry (column_number c ∷ [])) (cells table c) (entry (column_number c ∷ 8 ∷ [])) ≡ true
unfolding name_of
cells_rise table c =
    mapped name_of (Cell c) (entry (column_number c ∷ [])) (row_ids table) (entry (column_number c ∷ 8 ∷ []))
    ∙ under_all index (entry (column_number c ∷ [])) [] (row_ids table) (8 ∷ []) (all_rows_rise table)

-- between the name of an object and what is above its instances
abbrev start : Instances → List ℕ
start (One object) = below_dms ((scalar_number object).0 ∷ (scalar_number object).1 ∷ [])
start (EachRow column) = entry (column_number column ∷ [])

abbrev stop : Instances → List ℕ
stop (One object) = below_dms ((scalar_number object).0 ∷ (scalar_number object).1 ∷ 1 ∷ [])
stop (EachRow column) = entry (column_number column ∷ 8 ∷ [])

object_rises : (table : TableModel) (which : Instances) → rises name_of (start which) (instances_of table which) (stop which) ≡ true
unfolding name_of
object_rises table (One object) =
    under_all (λ (number : ℕ). number ∷ []) (below_dms ((scalar_number object).0 ∷ (scalar_number object).1 ∷ [])) [] (0 ∷ []) (1 ∷ []) refl
object_rises table (EachRow column) = cells_rise table column

pub instances_rise : (table : TableModel) → rises name_of [] (instances table) (2 ∷ []) ≡ true
unfolding instances
instances_rise table = pieces name_of (instances_of table) start stop (object_rises table) [] every_object (2 ∷ []) refl

-- ---- what is found in a list whose names rise

-- each name is above low
pub above : (low : List ℕ) (xs : List Instance) (high : List ℕ) → rises name_of low xs high ≡ true → (k : ℕ) (j : Instance) → slice_get xs k ≡ Some j
    → is_before low (name_of j) ≡ true
above low [] high r k j h = absurd (cc)
above low (x ∷ xs) high r zero j h =
    let e : x ≡ j = cc in
    subst (λ x. is_before low (name_of x) ≡ true) e (and_parts (is_before low (name_of x)) (rises name_of (name_of x) xs high) r).0
above low (x ∷ xs) high r (suc k) j h =
    let parts = and_parts (is_before low (name_of x)) (rises name_of (name_of x) xs high) r in
    before_trans low (name_of x) (name_of j) parts.0 (above (name_of x) xs high parts.1 k j h)

pub found : {X : Type 0} (test : X → Bool) (xs : List X) (i : X) → find test xs ≡ Some i → (k : ℕ) × (slice_get xs k ≡ Some i) × (test i ≡ true)
found test [] i h = absurd (cc)
found test (x ∷ xs) i h =
    elim (chosen (test x) (Some x) (find test xs) (Some i) h) [
      | inl here ↦ (0, here.1, subst (λ x. test x ≡ true) (same_Some x i here.1) here.0)
      | inr later ↦ let f = found test xs i later.1 in (suc f.0, f.1, f.2)
    ]

least : (name low : List ℕ) (xs : List Instance) (high : List ℕ) → rises name_of low xs high ≡ true → (i : Instance)
    → find (comes_after name) xs ≡ Some i → (k : ℕ) (j : Instance) → slice_get xs k ≡ Some j → comes_after name j ≡ true
    → (i ≡ j) ⊎ (comes_after (name_of i) j ≡ true)
least name low [] high r i h k j g t = absurd (cc)
least name low (x ∷ xs) high r i h zero j g t = grind arith
least name low (x ∷ xs) high r i h (suc k) j g t =
    let parts = and_parts (is_before low (name_of x)) (rises name_of (name_of x) xs high) r in
    elim (chosen (comes_after name x) (Some x) (find (comes_after name) xs) (Some i) h) [
      | inl here ↦ inr (subst (λ i. is_before (name_of i) (name_of j) ≡ true) (same_Some x i here.1) (above (name_of x) xs high parts.1 k j g))
      | inr later ↦ least name (name_of x) xs high parts.1 i later.1 k j g t
    ]

none_after : (name : List ℕ) (xs : List Instance) → find (comes_after name) xs ≡ None → (k : ℕ) (j : Instance) → slice_get xs k ≡ Some j
    → comes_after name j ≡ false
none_after name [] h k j g = absurd (cc)
none_after name (x ∷ xs) h zero j g = grind arith
none_after name (x ∷ xs) h (suc k) j g =
    let rest = λ (later : find (comes_after name) xs ≡ None). none_after name xs later k j g in
    grind arith

named_found : (low : List ℕ) (xs : List Instance) (high : List ℕ) → rises name_of low xs high ≡ true → (k : ℕ) (i : Instance)
    → slice_get xs k ≡ Some i
    → find (has_name (name_of i)) xs ≡ Some i
named_found low [] high r k i h = absurd (cc)
named_found low (x ∷ xs) high r zero i h =
    let is : x ≡ i = same_Some x i h in
    let same = (bytes_decides (name_of x) (name_of i)).1 (ap name_of is) in
    cond-true (has_name (name_of i) x) (Some x) (find (has_name (name_of i)) xs) same ∙ h
named_found low (x ∷ xs) high r (suc k) i h =
    let parts = and_parts (is_before low (name_of x)) (rises name_of (name_of x) xs high) r in
    let other = before_differs (name_of x) (name_of i) (above (name_of x) xs high parts.1 k i h) in
    cond-false (has_name (name_of i) x) (Some x) (find (has_name (name_of i)) xs) other
    ∙ named_found (name_of x) xs high parts.1 k i h

-- ---- the walk

by_found : (table : TableModel) (name : List ℕ) (o : Option Instance) → next_instance table name ≡ o → FirstAfter table name o
by_found table name None h = λ j there. none_after name (instances table) h there.0 j there.1
by_found table name (Some i) h =
    let at = found (comes_after name) (instances table) i h in
    let first = least name [] (instances table) (2 ∷ []) (instances_rise table) i h in
    record { there = (at.0, at.1); after = at.2; first = λ j there. first there.0 j there.1 }

pub next_is_first : (table : TableModel) (name : List ℕ) → FirstAfter table name (next_instance table name)
next_is_first table name = by_found table name (next_instance table name) refl

pub named_back : (table : TableModel) (i : Instance) → IsInstance table i → instance_named table (name_of i) ≡ Some i
named_back table i there = named_found [] (instances table) (2 ∷ []) (instances_rise table) there.0 i there.1

-- an instance that is found has the name that was asked
pub named_is : (table : TableModel) (name : List ℕ) (i : Instance) → instance_named table name ≡ Some i → (name_of i ≡ name) × IsInstance table i
named_is table name i h =
    let at = found (has_name name) (instances table) i h in
    ((bytes_decides (name_of i) name).0 at.2, (at.0, at.1))
