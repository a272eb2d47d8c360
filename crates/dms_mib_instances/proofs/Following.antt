-- What comes next after a name, by where it first differs from the names that there are.
use Rattle.std.proofs.Common.{◌≡◌, ◌⊎◌, ◌==◌, ◌&&◌, ℕ, zero, suc, ◌+◌, ◌<◌, ◌≤◌, Bool, true, false, cond, List, [], ◌∷◌, ◌++◌, find, Option, Some, None, slice_get, refl, sym, ap, ◌∙◌, arith}
use Rattle.std.proofs.lemmas.Bool.{both_ways}
use Rattle.std.proofs.lemmas.Bool.Decides.{nat_tests}
use Rattle.dms_wire_ber.proofs.NameOrderLaws.{before_trans, not_before_itself}
use Rattle.dms_wire_ber.specs.NameOrder.{is_before}
use Rattle.dms_codes.specs.declared.row_id.RowId.{RowId}
use Rattle.dms_mib.specs.declared.column.Column.{Column}
use Rattle.dms_mib.specs.declared.scalar.Scalar.{Scalar}
use Rattle.dms_mib.specs.declared.scalar.Scalar.TheVariants as scalars
use Rattle.dms_mib.specs.declared.instance.Instance.{Instance}
use Rattle.dms_mib.specs.declared.instance.Instance.TheVariants as kinds
use Rattle.dms_mib.specs.Names.{below_dms, column_number, scalar_number, name_of}
use Rattle.dms_table.specs.Rows.{TableModel}
use Rattle.dms_mib_instances.specs.declared.counts.Counts.{Counts}
use Rattle.dms_mib_instances.specs.Objects.{instances, comes_after, next_instance, IsInstance, IsFirstAfter, FirstAfter}
use Rattle.dms_mib_instances.specs.Places.{HasCounts, IsRow}
use Rattle.dms_mib_instances.specs.NameReading.{scalar_at}
use Rattle.dms_mib_instances.proofs.InOrder.{smaller, larger, next_is_first}
use Rattle.dms_mib_instances.proofs.Inverses.{scalar_back}
use Rattle.dms_mib_instances.proofs.WhichInstances.{object_there, there_counted}

-- ---- names with the same instances after them

same_find : (p q : Instance → Bool) (xs : List Instance) → ((k : ℕ) (j : Instance) → slice_get xs k ≡ Some j → p j ≡ q j) → find p xs ≡ find q xs
same_find p q [] same = refl
same_find p q (x ∷ xs) same =
    ap (λ b. cond b (Some x) (find p xs)) (same zero x refl) ∙ ap (λ o. cond (q x) (Some x) o) (same_find p q xs λ k j h. same (suc k) j h)

none_find : (p : Instance → Bool) (xs : List Instance) → ((k : ℕ) (j : Instance) → slice_get xs k ≡ Some j → p j ≡ false) → find p xs ≡ None
none_find p [] none = refl
none_find p (x ∷ xs) none =
    ap (λ b. cond b (Some x) (find p xs)) (none zero x refl) ∙ none_find p xs λ k j h. none (suc k) j h

pub same_next : (table : TableModel) (a b : List ℕ) → ((j : Instance) → IsInstance table j → comes_after a j ≡ comes_after b j)
    → next_instance table a ≡ next_instance table b
same_next table a b same = same_find (comes_after a) (comes_after b) (instances table) λ k j h. same j (k, h)

pub none_next : (table : TableModel) (a : List ℕ) → ((j : Instance) → IsInstance table j → comes_after a j ≡ false) → next_instance table a ≡ None
none_next table a none = none_find (comes_after a) (instances table) λ k j h. none j (k, h)

-- the instance that is first after a name is found
pub first_is : (table : TableModel) (name : List ℕ) (i : Instance) → IsFirstAfter table name i → next_instance table name ≡ Some i
first_is table name i is = by (next_instance table name) (next_is_first table name)
  where
    by : (o : Option Instance) → FirstAfter table name o → o ≡ Some i
    by None last = absurd (both_ways (comes_after name i) (last i is.there) is.after)
    by (Some k) first =
        let here = first.first i is.there is.after in
        let there = is.first k first.there first.after in
        let not = not_before_itself (name_of i) in
        let turns = before_trans (name_of i) (name_of k) (name_of i) in
        grind arith

-- ---- where two names first differ

-- two names with one first number
pub same_head : (n : ℕ) (a b : List ℕ) (g : ℕ) (c : List ℕ) → (n ≡ g → is_before a c ≡ is_before b c) → is_before (n ∷ a) (g ∷ c) ≡ is_before (n ∷ b) (g ∷ c)
same_head n a b g c same = grind (arith, nat_tests)

-- and with one number and the next
pub stepped : (n : ℕ) (a b : List ℕ) (g : ℕ) (c : List ℕ) → (n ≡ g → is_before a c ≡ false) → (n + 1 ≡ g → is_before b c ≡ true)
    → is_before (n ∷ a) (g ∷ c) ≡ is_before ((n + 1) ∷ b) (g ∷ c)
stepped n a b g c here next = grind (arith, nat_tests)

-- ---- the numbers of objects

pub record Within (object : Scalar) : Type 0 where
  pub group_from : 1 ≤ (scalar_number object).0
  pub group_to : (scalar_number object).0 ≤ 6
  pub from : 1 ≤ (scalar_number object).1
  pub to : (scalar_number object).1 ≤ 24

pub object_within : (object : Scalar) → Within object
object_within object = record { group_from = grind arith; group_to = grind arith; from = grind arith; to = grind arith }

not_table : (object : Scalar) → (scalar_number object).0 ≡ 5 → (scalar_number object).1 ≡ 8 → ⊥
not_table object five eight = grind arith

-- ---- names below dms

abbrev object_key : Scalar → List ℕ
object_key object = (scalar_number object).0 ∷ (scalar_number object).1 ∷ 0 ∷ []

abbrev cell_key : Column → RowId → List ℕ
cell_key column row = 5 ∷ 8 ∷ 1 ∷ column_number column ∷ row.memory ∷ row.number ∷ []

pub same_below : (table : TableModel) (n : Counts) → HasCounts table n → (a b : List ℕ)
    → ((object : Scalar) → is_before a (object_key object) ≡ is_before b (object_key object))
    → ((column : Column) (row : RowId) → IsRow n row → is_before a (cell_key column row) ≡ is_before b (cell_key column row))
    → next_instance table (below_dms a) ≡ next_instance table (below_dms b)
unfolding name_of
same_below table n has a b objects cells = same_next table (below_dms a) (below_dms b) each
  where
    each : (j : Instance) → IsInstance table j → comes_after (below_dms a) j ≡ comes_after (below_dms b) j
    each (kinds.Scalar object) there = objects object
    each (kinds.Cell column row) there = cells column row (there_counted table n column row has there)

-- names that their first two numbers alone part from those that there are
by_pairs : (table : TableModel) (n : Counts) → HasCounts table n → (a b : List ℕ)
    → ((g x y : ℕ) (c : List ℕ) → (1 ≤ g) × (g ≤ 6) × (1 ≤ x) × (x ≤ 24) → is_before a (g ∷ x ∷ y ∷ c) ≡ is_before b (g ∷ x ∷ y ∷ c))
    → next_instance table (below_dms a) ≡ next_instance table (below_dms b)
by_pairs table n has a b same =
    same_below table n has a b
    (λ object. let is = object_within object in same (scalar_number object).0 (scalar_number object).1 0 [] (is.group_from, is.group_to, is.from, is.to))
    (λ column row is. same 5 8 1 (column_number column ∷ row.memory ∷ row.number ∷ []) (omega arith, omega arith, omega arith, omega arith))

-- dms itself
pub of_nothing : (table : TableModel) (n : Counts) → HasCounts table n → next_instance table (below_dms []) ≡ next_instance table (below_dms (0 ∷ 0 ∷ []))
of_nothing table n has = by_pairs table n has [] (0 ∷ 0 ∷ []) λ g x y c is. sym (smaller 0 g (0 ∷ []) (x ∷ y ∷ c) (omega (arith, is.0)))

-- a group
pub of_group : (table : TableModel) (n : Counts) → HasCounts table n → (o : ℕ)
    → next_instance table (below_dms (o ∷ [])) ≡ next_instance table (below_dms (o ∷ 0 ∷ []))
of_group table n has o =
    by_pairs table n has (o ∷ []) (o ∷ 0 ∷ []) λ g x y c is. same_head o [] (0 ∷ []) g (x ∷ y ∷ c) λ e. sym (smaller 0 x [] (y ∷ c) (omega (arith, is.2)))

-- groups of 128 or more
pub group_high : (table : TableModel) (n : Counts) → HasCounts table n → (m o : ℕ) (a b : List ℕ) → 128 ≤ m → 128 ≤ o
    → next_instance table (below_dms (m ∷ a)) ≡ next_instance table (below_dms (o ∷ b))
group_high table n has m o a b many most =
    by_pairs table n has (m ∷ a) (o ∷ b) λ g x y c is.
    larger m g a (x ∷ y ∷ c) (omega (arith, is.1, many)) ∙ sym (larger o g b (x ∷ y ∷ c) (omega (arith, is.1, most)))

-- numbers of 128 or more in a group
pub number_high : (table : TableModel) (n : Counts) → HasCounts table n → (o m p : ℕ) (a b : List ℕ) → 128 ≤ m → 128 ≤ p
    → next_instance table (below_dms (o ∷ m ∷ a)) ≡ next_instance table (below_dms (o ∷ p ∷ b))
number_high table n has o m p a b many most =
    by_pairs table n has (o ∷ m ∷ a) (o ∷ p ∷ b) λ g x y c is. same_head o (m ∷ a) (p ∷ b) g (x ∷ y ∷ c) λ e.
    larger m x a (y ∷ c) (omega (arith, is.3, many)) ∙ sym (larger p x b (y ∷ c) (omega (arith, is.3, most)))

-- not before the instance of an object
none_before_0 : (z : ℕ) (zs : List ℕ) → is_before (z ∷ zs) (0 ∷ []) ≡ false
none_before_0 z [] = grind (arith, nat_tests)
none_before_0 z (k ∷ zs) = grind (arith, nat_tests)

-- at an object's instance or past it
pub past_object : (table : TableModel) (n : Counts) → HasCounts table n → (o p z : ℕ) (zs : List ℕ) → (o ≡ 5 → p ≡ 8 → ⊥)
    → next_instance table (below_dms (o ∷ p ∷ z ∷ zs)) ≡ next_instance table (below_dms (o ∷ (p + 1) ∷ []))
past_object table n has o p z zs other =
    let none = none_before_0 z zs in
    same_below table n has (o ∷ p ∷ z ∷ zs) (o ∷ (p + 1) ∷ []) (λ object. grind (arith, nat_tests)) (λ column row is. grind (arith, nat_tests))

-- ---- names below dmsMessageTable

-- before all cells
pub before_cells : (table : TableModel) (n : Counts) → HasCounts table n → (a : List ℕ)
    → ((m x : ℕ) (column : Column) → is_before a (1 ∷ column_number column ∷ m ∷ x ∷ []) ≡ true)
    → next_instance table (below_dms (5 ∷ 8 ∷ a)) ≡ next_instance table (below_dms (5 ∷ 8 ∷ []))
before_cells table n has a first =
    same_below table n has (5 ∷ 8 ∷ a) (5 ∷ 8 ∷ []) (λ object. let other = not_table object in grind (arith, nat_tests))
    (λ column row is. first row.memory row.number column)

-- the table's numbers or others
pub is_table : (g x : ℕ) → ((g == 5) && (x == 8)) ≡ true → (g ≡ 5) × (x ≡ 8)
is_table g x e = (grind (arith, nat_tests), grind (arith, nat_tests))

pub no_table : (g x : ℕ) → ((g == 5) && (x == 8)) ≡ false → g ≡ 5 → x ≡ 8 → ⊥
no_table g x e five eight = grind (arith, nat_tests)

-- the table where an object would be
pub table_first : (table : TableModel) (n : Counts) → HasCounts table n → (g x : ℕ) → ((g == 5) && (x == 8)) ≡ true
    → next_instance table (below_dms (g ∷ x ∷ [])) ≡ next_instance table (below_dms (5 ∷ 8 ∷ 1 ∷ 1 ∷ []))
table_first table n has g x e =
    let is = is_table g x e in
    ap (λ g. next_instance table (below_dms (g ∷ x ∷ []))) is.0 ∙ ap (λ x. next_instance table (below_dms (5 ∷ x ∷ []))) is.1
    ∙ sym (before_cells table n has (1 ∷ 1 ∷ []) λ m x column. grind (arith, nat_tests))

-- after all cells
pub past_cells : (table : TableModel) (n : Counts) → HasCounts table n → (z : ℕ) (a : List ℕ)
    → ((column : Column) (row : RowId) → IsRow n row → is_before (z ∷ a) (1 ∷ column_number column ∷ row.memory ∷ row.number ∷ []) ≡ false)
    → next_instance table (below_dms (5 ∷ 8 ∷ z ∷ a)) ≡ next_instance table (below_dms (5 ∷ 9 ∷ []))
past_cells table n has z a last =
    let none = none_before_0 z a in
    same_below table n has (5 ∷ 8 ∷ z ∷ a) (5 ∷ 9 ∷ []) (λ object. grind (arith, nat_tests)) last

pub objects_alike : (a b : List ℕ) (object : Scalar) → is_before (5 ∷ 8 ∷ 1 ∷ a) (object_key object) ≡ is_before (5 ∷ 8 ∷ 1 ∷ b) (object_key object)
objects_alike a b object = grind (arith, nat_tests)

-- within a column
pub in_column : (table : TableModel) (n : Counts) → HasCounts table n → (k : ℕ) (a b : List ℕ)
    → ((row : RowId) → IsRow n row → is_before a (row.memory ∷ row.number ∷ []) ≡ is_before b (row.memory ∷ row.number ∷ []))
    → next_instance table (below_dms (5 ∷ 8 ∷ 1 ∷ k ∷ a)) ≡ next_instance table (below_dms (5 ∷ 8 ∷ 1 ∷ k ∷ b))
in_column table n has k a b same =
    same_below table n has (5 ∷ 8 ∷ 1 ∷ k ∷ a) (5 ∷ 8 ∷ 1 ∷ k ∷ b) (λ object. objects_alike (k ∷ a) (k ∷ b) object)
    (λ column row is. same_head k a b (column_number column) (row.memory ∷ row.number ∷ []) λ e. same row is)

-- ---- the objects from a group and number on

pub found_object : (table : TableModel) (n : Counts) → HasCounts table n → (g x : ℕ) (object : Scalar) → scalar_number object ≡ (g, x)
    → next_instance table (below_dms (g ∷ x ∷ [])) ≡ Some (kinds.Scalar object)
unfolding name_of
found_object table n has g x object is =
    first_is table (below_dms (g ∷ x ∷ [])) (kinds.Scalar object)
    (record { there = object_there table object; after = grind (arith, nat_tests); first = each })
  where
    each : (j : Instance) → IsInstance table j → comes_after (below_dms (g ∷ x ∷ [])) j ≡ true
        → (kinds.Scalar object ≡ j) ⊎ (comes_after (name_of (kinds.Scalar object)) j ≡ true)
    each (kinds.Scalar other) there e =
        let same = scalar_back object in
        let others = scalar_back other in
        grind (arith, nat_tests)
    each (kinds.Cell column row) there e =
        let other = not_table object in
        grind (arith, nat_tests)

no_object : (object : Scalar) (g x : ℕ) → scalar_at g x ≡ None → (scalar_number object).0 ≡ g → (scalar_number object).1 ≡ x → ⊥
no_object object g x none of_group of_number = grind arith

-- no object has this number, nor is it the table's
pub next_number : (table : TableModel) (n : Counts) → HasCounts table n → (g x : ℕ) → scalar_at g x ≡ None → (g ≡ 5 → x ≡ 8 → ⊥)
    → next_instance table (below_dms (g ∷ x ∷ [])) ≡ next_instance table (below_dms (g ∷ (x + 1) ∷ []))
next_number table n has g x none other =
    same_below table n has (g ∷ x ∷ []) (g ∷ (x + 1) ∷ []) (λ object. let no = no_object object g x none in grind (arith, nat_tests))
    (λ column row is. grind (arith, nat_tests))

-- nor has one a greater number in the group
pub next_group : (table : TableModel) (n : Counts) → HasCounts table n → (g x : ℕ) → scalar_at g x ≡ None → (g ≡ 5 → x ≡ 8 → ⊥)
    → ((object : Scalar) → (scalar_number object).0 ≡ g → (scalar_number object).1 ≤ x)
    → next_instance table (below_dms (g ∷ x ∷ [])) ≡ next_instance table (below_dms ((g + 1) ∷ 0 ∷ []))
next_group table n has g x none other last =
    let table_is = last scalars.ValidateMessageError in
    same_below table n has (g ∷ x ∷ []) ((g + 1) ∷ 0 ∷ [])
    (λ object. let is = object_within object in let no = no_object object g x none in let most = last object in grind (arith, nat_tests))
    (λ column row is. grind (arith, nat_tests))

no_group_one : (object : Scalar) → (scalar_number object).0 ≡ 1 → (scalar_number object).1 ≤ 0
no_group_one object is = grind arith

no_group_zero : (object : Scalar) → (scalar_number object).0 ≡ 0 → (scalar_number object).1 ≤ 0
no_group_zero object is = let within = object_within object in omega (arith, within.group_from, is)

-- the first object of all is that of the sign's height
pub height_first : (table : TableModel) (n : Counts) → HasCounts table n
    → next_instance table (below_dms (0 ∷ 0 ∷ [])) ≡ Some (kinds.Scalar scalars.SignHeightPixels)
height_first table n has =
    next_group table n has 0 0 refl (λ five eight. absurd (cc)) no_group_zero
    ∙ next_group table n has 1 0 refl (λ five eight. absurd (cc)) no_group_one
    ∙ next_number table n has 2 0 refl (λ five eight. absurd (cc))
    ∙ next_number table n has 2 1 refl (λ five eight. absurd (cc))
    ∙ next_number table n has 2 2 refl (λ five eight. absurd (cc))
    ∙ found_object table n has 2 3 scalars.SignHeightPixels refl

pub past_groups : (table : TableModel) (g : ℕ) (a : List ℕ) → 6 < g → None ≡ next_instance table (below_dms (g ∷ a))
unfolding name_of
past_groups table g a past = sym (none_next table (below_dms (g ∷ a)) each)
  where
    each : (j : Instance) → IsInstance table j → comes_after (below_dms (g ∷ a)) j ≡ false
    each (kinds.Scalar object) there =
        let is = object_within object in
        larger g (scalar_number object).0 a ((scalar_number object).1 ∷ 0 ∷ []) (omega (arith, is.group_to, past))
    each (kinds.Cell column row) there = larger g 5 a (8 ∷ 1 ∷ column_number column ∷ row.memory ∷ row.number ∷ []) (omega (arith, past))

-- ---- names that are not below dms

outside : (front name xs : List ℕ) → ((rest : List ℕ) → name ≡ front ++ rest → ⊥) → is_before name (front ++ xs) ≡ is_before name front
outside [] name xs other = absurd (other name refl)
outside (n ∷ front) [] xs other = refl
outside (n ∷ front) (m ∷ name) xs other =
    let rest = λ (same : n ≡ m). outside front name xs λ rest e. other rest (ap (λ m. m ∷ name) (sym same) ∙ ap (λ ns. n ∷ ns) e) in
    grind (arith, nat_tests)

each_outside : (name : List ℕ) → ((rest : List ℕ) → name ≡ below_dms rest → ⊥) → (j : Instance) → comes_after name j ≡ is_before name (below_dms [])
unfolding name_of
each_outside name other (kinds.Scalar object) = outside (below_dms []) name (object_key object) other
each_outside name other (kinds.Cell column row) = outside (below_dms []) name (cell_key column row) other

pub before_dms : (table : TableModel) (n : Counts) → HasCounts table n → (name : List ℕ) → ((rest : List ℕ) → name ≡ below_dms rest → ⊥)
    → is_before name (below_dms []) ≡ true → next_instance table (below_dms (0 ∷ 0 ∷ [])) ≡ next_instance table name
unfolding name_of
before_dms table n has name other first =
    sym (of_nothing table n has) ∙ same_next table (below_dms []) name each
  where
    each : (j : Instance) → IsInstance table j → comes_after (below_dms []) j ≡ comes_after name j
    each (kinds.Scalar object) there = sym (each_outside name other (kinds.Scalar object) ∙ first)
    each (kinds.Cell column row) there = sym (each_outside name other (kinds.Cell column row) ∙ first)

pub past_dms : (table : TableModel) (name : List ℕ) → ((rest : List ℕ) → name ≡ below_dms rest → ⊥)
    → is_before name (below_dms []) ≡ false → None ≡ next_instance table name
past_dms table name other past = sym (none_next table name λ j there. each_outside name other j ∙ past)
