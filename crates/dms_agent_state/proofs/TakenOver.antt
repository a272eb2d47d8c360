-- The values of objects, put back to others that are published alike.
use Rattle.std.proofs.Common.{◌≡◌, ℕ, Bool, true, false, cond, List, [], ◌∷◌, ◌++◌, map, filter, refl, sym, ap, ap₂, subst, ◌∙◌, inl, inr}
use Rattle.std.specs.List.{list_all, list_any}
use Rattle.std.proofs.lemmas.Bool.{and_parts, and_from, cases_Bool}
use Rattle.dms_wire_ber.specs.NameOrder.{is_before}
use Rattle.dms_wire.specs.Message.{VarBind}
use Rattle.dms_device.specs.Object.{DeviceObject, admits}
use Rattle.dms_device.specs.Objects.{has_name, comes_after, rises, binding_of}
use Rattle.dms_device.specs.Setting.{set_to, set_by_binding, written}
use Rattle.dms_device.proofs.Order.{names_itself, before_differs, after_differs, none_of}
use Rattle.dms_device.proofs.Writes.{none_set}
use Rattle.dms_agent_state.specs.AgentText.{value_line, kept_line, kept_lines}
use Rattle.dms_agent_state.specs.Alike.{CanAllBeSaved, kept_bindings, AreAlike, taken_over, all_taken_over, AreFirmwares}

abbrev pub is_kept : DeviceObject → Bool
is_kept object = object.by_manager

-- ---- bindings of names that come later

abbrev pub binds_after : List ℕ → VarBind → Bool
binds_after name binding = is_before name binding.name

pub all_later : (name : List ℕ) (xs : List DeviceObject) → list_all (comes_after name) xs ≡ true → list_all (binds_after name) (kept_bindings xs) ≡ true
all_later name [] all = refl
all_later name (x ∷ xs) all =
    let parts = and_parts (comes_after name x) (list_all (comes_after name) xs) all in
    let more = all_later name xs parts.1 in
    elim (x.by_manager) as (λ b. list_all (binds_after name) (map binding_of (cond b (x ∷ filter is_kept xs) (filter is_kept xs))) ≡ true) [
      | true ↦ and_from (comes_after name x) (list_all (binds_after name) (kept_bindings xs)) parts.0 more
      | false ↦ more
    ]

other_stays : (b : VarBind) (y : DeviceObject) → has_name b.name y ≡ false → set_by_binding b y ≡ y
other_stays b y other = ap (λ t. cond t (set_to y b.value) y) other

-- what comes later leaves the first object as it is
stays_first : (y : DeviceObject) (ys : List DeviceObject) (bindings : List VarBind) → list_all (binds_after y.name) bindings ≡ true
    → written (y ∷ ys) bindings ≡ y ∷ written ys bindings
stays_first y ys [] later = refl
stays_first y ys (b ∷ more) later =
    let parts = and_parts (is_before y.name b.name) (list_all (binds_after y.name) more) later in
    ap (λ y. written (y ∷ map (set_by_binding b) ys) more) (other_stays b y (after_differs b.name y parts.0))
    ∙ stays_first y (map (set_by_binding b) ys) more parts.1

-- ---- one object, and all

set_first : (x y : DeviceObject) → x.name ≡ y.name → x.access ≡ y.access → admits x.access x.value ≡ true
    → set_by_binding (binding_of x) y ≡ record y { value = x.value; is_set = true; by_manager = true }
set_first x y name access admitted =
    let taken : admits y.access x.value ≡ true = subst (λ access. admits access x.value ≡ true) access admitted in
    ap (λ t. cond t (set_to y x.value) y) (names_itself x.name y (sym name))
    ∙ ap (λ t. cond t (record y { value = x.value; is_set = true; by_manager = true }) y) taken

-- no object behind the first has its name
none_named : (name : List ℕ) (ys : List DeviceObject) → list_all (comes_after name) ys ≡ true → list_any (has_name name) ys ≡ false
none_named name ys all = none_of (comes_after name) (has_name name) (λ y later. before_differs name y later) ys all

-- the names of what is alike
alike_after : (name : List ℕ) (xs ys : List DeviceObject) → AreAlike xs ys → list_all (comes_after name) xs ≡ true → list_all (comes_after name) ys ≡ true
alike_after name [] [] alike all = refl
alike_after name [] (y ∷ ys) alike all = absurd alike
alike_after name (x ∷ xs) [] alike all = absurd alike
alike_after name (x ∷ xs) (y ∷ ys) alike all =
    let parts = and_parts (comes_after name x) (list_all (comes_after name) xs) all in
    and_from (comes_after name y) (list_all (comes_after name) ys) (subst (λ n. is_before name n ≡ true) alike.0 parts.0) (alike_after name xs ys alike.2 parts.1)

pub all_put_back : (xs ys : List DeviceObject) → rises xs ≡ true → CanAllBeSaved xs → AreAlike xs ys → written ys (kept_bindings xs) ≡ all_taken_over xs ys
all_put_back [] [] rise all alike = refl
all_put_back [] (y ∷ ys) rise all alike = absurd alike
all_put_back (x ∷ xs) [] rise all alike = absurd alike
all_put_back (x ∷ xs) (y ∷ ys) rise all alike =
    let parts = and_parts (list_all (comes_after x.name) xs) (rises xs) rise in
    let later = all_later x.name xs parts.0 in
    let more = all_put_back xs ys parts.1 all.1 alike.2 in
    elim (cases_Bool x.by_manager) [
      | inl by ↦
          let b = binding_of x in
          let set = record y { value = x.value; is_set = true; by_manager = true } in
          let none : ys ≡ map (set_by_binding b) ys = none_set b ys (none_named x.name ys (alike_after x.name xs ys alike.2 parts.0)) in
          ap (λ t. written (y ∷ ys) (map binding_of (cond t (x ∷ filter is_kept xs) (filter is_kept xs)))) by
          ∙ ap₂ (λ y ys. written (y ∷ ys) (kept_bindings xs)) (set_first x y alike.0 alike.1 (all.0.admitted by)) (sym none)
          ∙ stays_first set ys (kept_bindings xs) (subst (λ n. list_all (binds_after n) (kept_bindings xs) ≡ true) alike.0 later)
          ∙ ap (λ ys. set ∷ ys) more
          ∙ ap (λ t. cond t set y ∷ all_taken_over xs ys) (sym by)
      | inr other ↦
          ap (λ t. written (y ∷ ys) (map binding_of (cond t (x ∷ filter is_kept xs) (filter is_kept xs)))) other
          ∙ stays_first y ys (kept_bindings xs) (subst (λ n. list_all (binds_after n) (kept_bindings xs) ≡ true) alike.0 later)
          ∙ ap (λ ys. y ∷ ys) more
          ∙ ap (λ t. cond t (record y { value = x.value; is_set = true; by_manager = true }) y ∷ all_taken_over xs ys) (sym other)
    ]

-- ---- in turn

pub written_in_turn : (xs : List DeviceObject) (first second : List VarBind) → written xs (first ++ second) ≡ written (written xs first) second
written_in_turn xs [] second = refl
written_in_turn xs (b ∷ first) second = written_in_turn (map (set_by_binding b) xs) first second

-- ---- the same lines again

one_again : (x y : DeviceObject) → x.name ≡ y.name → y.by_manager ≡ false → kept_line (taken_over x y) ≡ kept_line x
one_again x y name none =
    elim (cases_Bool x.by_manager) [
      | inl by ↦
          ap (λ t. kept_line (cond t (record y { value = x.value; is_set = true; by_manager = true }) y)) by
          ∙ ap (λ n. value_line n x.value) (sym name) ∙ ap (λ t. cond t (value_line x.name x.value) []) (sym by)
      | inr other ↦
          ap (λ t. kept_line (cond t (record y { value = x.value; is_set = true; by_manager = true }) y)) other
          ∙ ap (λ t. cond t (value_line y.name y.value) []) none ∙ ap (λ t. cond t (value_line x.name x.value) []) (sym other)
    ]

pub same_lines : (xs ys : List DeviceObject) → AreAlike xs ys → AreFirmwares ys → kept_lines (all_taken_over xs ys) ≡ kept_lines xs
same_lines [] [] alike none = refl
same_lines [] (y ∷ ys) alike none = absurd alike
same_lines (x ∷ xs) [] alike none = absurd alike
same_lines (x ∷ xs) (y ∷ ys) alike none = ap₂ (λ line lines. line ++ lines) (one_again x y alike.0 none.0) (same_lines xs ys alike.2 none.1)
