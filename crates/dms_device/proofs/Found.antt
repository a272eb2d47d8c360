-- Where objects stand in the order of their names, and what is found there.
use Rattle.std.proofs.Common.{◌≡◌, ℕ, zero, suc, ◌+◌, ◌-◌, ◌<◌, ◌≤◌, Bool, true, false, not, List, [], ◌∷◌, get_or, length, refl, sym, ap, subst, ◌∙◌, arith, find, Some, None, cond, inl, inr}
use Rattle.std.specs.List.{list_all, list_any, position_or_len, prefix_len}
use Rattle.std.proofs.lemmas.Bool.{and_parts, or_parts, both_ways, false_from_ne_true, cases_lt}
use Rattle.std.proofs.lemmas.List.Sums.{position_or_len_is, fails_before_first, passes_at_first}
use Rattle.std.proofs.lemmas.List.Folds.{list_any_none}
use Rattle.std.proofs.lemmas.List.{get_or_default}
use Rattle.dms_wire_ber.specs.NameOrder.{is_before}
use Rattle.dms_wire.specs.Message.{ObjectValue, VarBind}
use Rattle.dms_device.specs.Object.{DeviceObject}
use Rattle.dms_device.specs.Objects.{has_name, comes_after, rises, device_value, binding_of, device_after}
use Rattle.dms_device.proofs.Order.{same_name, before_differs, after_differs, all_at, later_after}

-- ---- halving

-- so far: what stands below `low` does not come after the name, and what stands at `high` does
pub record IsHalved (name : List ℕ) (xs : List DeviceObject) (low high : ℕ) : Type 0 where
  pub order : low ≤ high
  pub within : high ≤ length xs
  pub below : (k : ℕ) (d : DeviceObject) → k < low → comes_after name (get_or xs k d) ≡ false
  pub above : (d : DeviceObject) → high < length xs → comes_after name (get_or xs high d) ≡ true

-- what is read at a place stands there
pub read : (xs : List DeviceObject) (k : ℕ) (x d : DeviceObject) → k < length xs → x ≡ get_or xs k x → get_or xs k d ≡ x
read xs k x d lt e = sym (e ∙ get_or_default xs k x d lt)

pub halved_starts : (name : List ℕ) (xs : List DeviceObject) → IsHalved name xs 0 (length xs)
halved_starts name xs = record {
  order = omega arith;
  within = omega arith;
  below = λ k d lt. absurd (omega arith);
  above = λ d lt. absurd (omega arith);
}

pub halved_down : (name : List ℕ) (xs : List DeviceObject) (low high middle : ℕ) (x : DeviceObject) → IsHalved name xs low high
    → low ≤ middle → middle < high → x ≡ get_or xs middle x → comes_after name x ≡ true → IsHalved name xs low middle
halved_down name xs low high middle x h le lt at after = record {
  order = le;
  within = omega (arith, h.within);
  below = h.below;
  above = λ d g. rw (read xs middle x d (omega (arith, h.within)) at) after;
}

pub halved_up : (name : List ℕ) (xs : List DeviceObject) (low high middle : ℕ) (x : DeviceObject) → rises xs ≡ true → IsHalved name xs low high
    → low ≤ middle → middle < high → x ≡ get_or xs middle x → comes_after name x ≡ false → IsHalved name xs (middle + 1) high
halved_up name xs low high middle x r h le lt at after = record {
  order = omega arith;
  within = h.within;
  below = λ k d g.
      false_from_ne_true (comes_after name (get_or xs k d)) λ e.
      both_ways (comes_after name x) after
      (subst (λ o. comes_after name o ≡ true) (read xs middle x d (omega (arith, h.within)) at) (later_after name xs d k middle r (omega arith) (omega (arith, h.within)) e));
  above = h.above;
}

pub halved_ends : (name : List ℕ) (xs : List DeviceObject) (low high : ℕ) → IsHalved name xs low high → high ≤ low
    → low ≡ position_or_len (comes_after name) xs
halved_ends name [] low high h le = omega (arith, h.within, h.order)
halved_ends name (x ∷ xs) low high h le =
    let same : low ≡ high = omega (arith, h.order) in
    let first = λ (lt : low < length (x ∷ xs)).
    subst (λ i. comes_after name (get_or (x ∷ xs) i x) ≡ true) (sym same) (h.above x (omega arith))
    in
    sym (position_or_len_is (comes_after name) (x ∷ xs) low x (omega (arith, h.within, h.order)) (λ k lt. h.below k x lt) first)

-- ---- names at places

-- the name at a place is before that at a later one
pub in_order : (xs : List DeviceObject) (d : DeviceObject) (j k : ℕ) → rises xs ≡ true → j < k → k < length xs
    → is_before (get_or xs j d).name (get_or xs k d).name ≡ true
in_order [] d j k r lt g = absurd (omega arith)
in_order (x ∷ xs) d j zero r lt g = absurd (omega arith)
in_order (x ∷ xs) d zero (suc k) r lt g =
    all_at (comes_after x.name) xs k d (and_parts (list_all (comes_after x.name) xs) (rises xs) r).0 (omega arith)
in_order (x ∷ xs) d (suc j) (suc k) r lt g =
    in_order xs d j k (and_parts (list_all (comes_after x.name) xs) (rises xs) r).1 (omega arith) (omega arith)

prefix_few : {X : Type 0} (p : X → Bool) (xs : List X) → prefix_len p xs ≤ length xs
prefix_few p [] = omega arith
prefix_few p (x ∷ xs) =
    elim (p x) as (λ t. cond t (1 + prefix_len p xs) 0 ≤ length (x ∷ xs)) [ true ↦ omega (arith, prefix_few p xs) | false ↦ omega arith ]

pub place_few : {X : Type 0} (p : X → Bool) (xs : List X) → position_or_len p xs ≤ length xs
place_few p xs = prefix_few (λ x. not (p x)) xs

-- no object from the first that comes after a name on has it
not_above : (name : List ℕ) (xs : List DeviceObject) (d : DeviceObject) (j : ℕ) → rises xs ≡ true
    → position_or_len (comes_after name) xs ≤ j → j < length xs → has_name name (get_or xs j d) ≡ false
not_above name xs d j r le lt =
    let k = position_or_len (comes_after name) xs in
    let first : comes_after name (get_or xs k d) ≡ true = passes_at_first (comes_after name) xs d (omega arith) in
    before_differs name (get_or xs j d) (later_after name xs d k j r le lt first)

-- nor does one before the last that does not
not_below : (name : List ℕ) (xs : List DeviceObject) (d : DeviceObject) (j last : ℕ) → rises xs ≡ true
    → last < position_or_len (comes_after name) xs → j < last → has_name name (get_or xs j d) ≡ false
not_below name xs d j last r lt g =
    false_from_ne_true (has_name name (get_or xs j d)) λ e.
    let few = place_few (comes_after name) xs in
    let fails : comes_after name (get_or xs last d) ≡ false = fails_before_first (comes_after name) xs last d lt in
    let before : is_before (get_or xs j d).name (get_or xs last d).name ≡ true = in_order xs d j last r g (omega arith) in
    both_ways (comes_after name (get_or xs last d)) fails
    (subst (λ n. is_before n (get_or xs last d).name ≡ true) (same_name name (get_or xs j d) e) before)

-- no object has a name that the last before those that come after it has not
pub no_name : (name : List ℕ) (xs : List DeviceObject) (k : ℕ) → rises xs ≡ true → k ≡ position_or_len (comes_after name) xs
    → ((d : DeviceObject) → 0 < k → has_name name (get_or xs (k - 1) d) ≡ false) → list_any (has_name name) xs ≡ false
no_name name xs k r at last =
    list_any_none (has_name name) xs λ j d lt.
    elim (cases_lt j k) [
      | inr above ↦ not_above name xs d j r (omega arith) lt
      | inl below ↦
          elim (cases_lt j (k - 1)) [
            | inl before ↦ not_below name xs d j (k - 1) r (omega arith) before
            | inr after ↦
                let same : k - 1 ≡ j = omega arith in
                subst (λ i. has_name name (get_or xs i d) ≡ false) same (last d (omega arith))
          ]
    ]

-- the object at a place is the only one that has its name
pub found_there : (name : List ℕ) (xs : List DeviceObject) (k : ℕ) (d : DeviceObject) → rises xs ≡ true → k < length xs
    → has_name name (get_or xs k d) ≡ true → find (has_name name) xs ≡ Some (get_or xs k d)
found_there name [] k d r lt h = absurd (omega arith)
found_there name (x ∷ xs) zero d r lt h = rw h refl
found_there name (x ∷ xs) (suc k) d r lt h =
    let parts = and_parts (list_all (comes_after x.name) xs) (rises xs) r in
    let before : is_before x.name name ≡ true =
    subst (λ n. is_before x.name n ≡ true) (same_name name (get_or xs k d) h) (all_at (comes_after x.name) xs k d parts.0 (omega arith))
    in
    rw (after_differs name x before) (found_there name xs k d parts.1 (omega arith) h)

pub none_found : {X : Type 0} (p : X → Bool) (xs : List X) → list_any p xs ≡ false → find p xs ≡ None
none_found p [] h = refl
none_found p (x ∷ xs) h =
    let parts = or_parts (p x) (list_any p xs) h in
    rw parts.0 (none_found p xs parts.1)

pub found_first : {X : Type 0} (p : X → Bool) (xs : List X) (d : X) → position_or_len p xs < length xs
    → find p xs ≡ Some (get_or xs (position_or_len p xs) d)
found_first p [] d lt = absurd (omega arith)
found_first {X} p (x ∷ xs) d lt =
    let at : Bool → ℕ = λ t. cond (not t) (1 + position_or_len p xs) 0 in
    let more : at false < length (x ∷ xs) → find p xs ≡ Some (get_or (x ∷ xs) (at false) d) = λ lt.
    let one : suc (position_or_len p xs) ≡ 1 + position_or_len p xs = omega arith in
    subst (λ i. find p xs ≡ Some (get_or (x ∷ xs) i d)) one (found_first p xs d (omega arith))
    in
    (elim (p x) as (λ t. at t < length (x ∷ xs) → cond t (Some x) (find p xs) ≡ Some (get_or (x ∷ xs) (at t) d)) [ true ↦ λ lt. refl | false ↦ more ]) lt

pub none_first : {X : Type 0} (p : X → Bool) (xs : List X) → position_or_len p xs ≡ length xs → find p xs ≡ None
none_first p [] e = refl
none_first {X} p (x ∷ xs) e =
    let at : Bool → ℕ = λ t. cond (not t) (1 + position_or_len p xs) 0 in
    let first : at true ≡ length (x ∷ xs) → Some x ≡ None = λ e. absurd (omega arith) in
    let more : at false ≡ length (x ∷ xs) → find p xs ≡ None = λ e. none_first p xs (omega arith) in
    (elim (p x) as (λ t. at t ≡ length (x ∷ xs) → cond t (Some x) (find p xs) ≡ None) [ true ↦ first | false ↦ more ]) e

-- ---- what the calls find, where the code has the list by two names

-- the object at a place has the name
abbrev pub HasNameAt : List ℕ → List DeviceObject → ℕ → Type 0
HasNameAt name xs k = (d : DeviceObject) → has_name name (get_or xs k d) ≡ true

pub value_there : (name : List ℕ) (xs ys : List DeviceObject) (k : ℕ) (x : DeviceObject) (v : ObjectValue) → xs ≡ ys → rises ys ≡ true
    → k < length xs → HasNameAt name xs k → x ≡ get_or ys k x → v ≡ x.value → Some v ≡ device_value ys name
value_there name xs ys k x v e r lt found at is =
    let there : find (has_name name) ys ≡ Some (get_or ys k x) =
    found_there name ys k x r (rw (← e) lt) (subst (λ l. has_name name (get_or l k x) ≡ true) e (found x))
    in
    rw (there, ← at, is) refl

pub value_missing : (name : List ℕ) (xs ys : List DeviceObject) → xs ≡ ys → list_any (has_name name) xs ≡ false → None ≡ device_value ys name
value_missing name xs ys e none = rw (none_found (has_name name) ys (subst (λ l. list_any (has_name name) l ≡ false) e none)) refl

pub after_there : (name : List ℕ) (xs ys : List DeviceObject) (k : ℕ) (x : DeviceObject) (b : VarBind) → xs ≡ ys
    → k ≡ position_or_len (comes_after name) xs → k < length ys → x ≡ get_or ys k x → b ≡ binding_of x → Some b ≡ device_after ys name
after_there name xs ys k x b e place lt at is =
    let here : k ≡ position_or_len (comes_after name) ys = place ∙ ap (position_or_len (comes_after name)) e in
    let there : find (comes_after name) ys ≡ Some (get_or ys (position_or_len (comes_after name) ys) x) =
    found_first (comes_after name) ys x (rw (← here) lt) in
    rw (there, ← here, ← at, is) refl

pub after_missing : (name : List ℕ) (xs ys : List DeviceObject) (k : ℕ) → xs ≡ ys
    → k ≡ position_or_len (comes_after name) xs → k ≡ length ys → None ≡ device_after ys name
after_missing name xs ys k e place last =
    let here : position_or_len (comes_after name) ys ≡ length ys = sym (place ∙ ap (position_or_len (comes_after name)) e) ∙ last in
    rw (none_first (comes_after name) ys here) refl
