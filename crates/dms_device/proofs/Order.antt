-- The order of names, and lists of objects in which it rises.
use Rattle.std.proofs.Common.{◌≡◌, ℕ, zero, suc, ◌<◌, ◌≤◌, Bool, true, false, List, [], ◌∷◌, get_or, length, refl, ap, subst, arith}
use Rattle.std.specs.Cmp.Lexicographic.{bytes_decides}
use Rattle.std.specs.List.{list_all, list_any}
use Rattle.std.proofs.lemmas.Bool.{and_parts, and_from, both_ways, false_from_ne_true}
use Rattle.dms_wire_ber.specs.NameOrder.{is_before}
use Rattle.dms_wire_ber.proofs.NameOrderLaws.{before_trans, not_before_itself}
use Rattle.dms_device.specs.Object.{DeviceObject}
use Rattle.dms_device.specs.Objects.{has_name, comes_after, rises}

pub same_name : (name : List ℕ) (o : DeviceObject) → has_name name o ≡ true → o.name ≡ name
same_name name o h = (bytes_decides o.name name).0 h

pub names_itself : (name : List ℕ) (o : DeviceObject) → o.name ≡ name → has_name name o ≡ true
names_itself name o e = (bytes_decides o.name name).1 e

-- a name that is before another is not the other
pub before_differs : (name : List ℕ) (o : DeviceObject) → is_before name o.name ≡ true → has_name name o ≡ false
before_differs name o h =
    false_from_ne_true (has_name name o) λ e.
    both_ways (is_before name name) (not_before_itself name) (subst (λ b. is_before name b ≡ true) (same_name name o e) h)

-- nor is the other
pub after_differs : (name : List ℕ) (o : DeviceObject) → is_before o.name name ≡ true → has_name name o ≡ false
after_differs name o h =
    false_from_ne_true (has_name name o) λ e.
    both_ways (is_before name name) (not_before_itself name) (subst (λ b. is_before b name ≡ true) (same_name name o e) h)

-- each element that a test passes for a whole list
pub all_at : {X : Type 0} (p : X → Bool) (xs : List X) (k : ℕ) (d : X) → list_all p xs ≡ true → k < length xs → p (get_or xs k d) ≡ true
all_at p [] k d h lt = absurd (omega arith)
all_at p (x ∷ xs) zero d h lt = (and_parts (p x) (list_all p xs) h).0
all_at p (x ∷ xs) (suc k) d h lt = all_at p xs k d (and_parts (p x) (list_all p xs) h).1 (omega arith)

pub all_of : {X : Type 0} (p q : X → Bool) → ((x : X) → p x ≡ true → q x ≡ true) → (xs : List X) → list_all p xs ≡ true → list_all q xs ≡ true
all_of p q w [] h = refl
all_of p q w (x ∷ xs) h =
    let parts = and_parts (p x) (list_all p xs) h in
    and_from (q x) (list_all q xs) (w x parts.0) (all_of p q w xs parts.1)

pub none_of : {X : Type 0} (p q : X → Bool) → ((x : X) → p x ≡ true → q x ≡ false) → (xs : List X) → list_all p xs ≡ true → list_any q xs ≡ false
none_of p q w [] h = refl
none_of p q w (x ∷ xs) h =
    let parts = and_parts (p x) (list_all p xs) h in
    rw (w x parts.0) (none_of p q w xs parts.1)

-- all that follow an object that comes after a name come after it too
pub all_after : (name : List ℕ) (o : DeviceObject) (more : List DeviceObject) → is_before name o.name ≡ true
    → list_all (comes_after o.name) more ≡ true → list_all (comes_after name) more ≡ true
all_after name o more h all = all_of (comes_after o.name) (comes_after name) (λ x g. before_trans name o.name x.name h g) more all

-- what is after an object is after each that stands before it
pub later_after : (name : List ℕ) (xs : List DeviceObject) (d : DeviceObject) (j k : ℕ) → rises xs ≡ true → j ≤ k → k < length xs
    → comes_after name (get_or xs j d) ≡ true → comes_after name (get_or xs k d) ≡ true
later_after name [] d j k r le lt h = absurd (omega arith)
later_after name (x ∷ xs) d zero zero r le lt h = h
later_after name (x ∷ xs) d zero (suc k) r le lt h =
    let parts = and_parts (list_all (comes_after x.name) xs) (rises xs) r in
    before_trans name x.name (get_or xs k d).name h (all_at (comes_after x.name) xs k d parts.0 (omega arith))
later_after name (x ∷ xs) d (suc j) zero r le lt h = absurd (omega arith)
later_after name (x ∷ xs) d (suc j) (suc k) r le lt h =
    let parts = and_parts (list_all (comes_after x.name) xs) (rises xs) r in
    later_after name xs d j k parts.1 (omega arith) (omega arith) h
