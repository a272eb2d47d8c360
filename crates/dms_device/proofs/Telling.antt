-- What was set, of which firmware was not told yet.
use Rattle.std.proofs.Common.{◌≡◌, ℕ, suc, ◌+◌, ◌<◌, ◌≤◌, Bool, true, false, ◌&&◌, not, cond, List, [], ◌∷◌, get_or, set, drop, map, filter, length, refl, sym, ap, ap₂, subst, ◌∙◌, arith, find, Some, None, slice_get}
use Rattle.std.specs.Prelude.{option_map}
use Rattle.std.specs.List.{list_all, position_or_len}
use Rattle.std.proofs.lemmas.List.Sums.{position_or_len_is}
use Rattle.dms_wire.specs.Message.{VarBind}
use Rattle.dms_device.specs.Object.{DeviceObject}
use Rattle.dms_device.specs.Objects.{comes_after, rises, binding_of}
use Rattle.dms_device.specs.Taken.{was_set, set_bindings, told, told_first}
use Rattle.dms_device.proofs.Found.{found_first, none_first}

first_binding : (xs : List DeviceObject) → option_map binding_of (find was_set xs) ≡ slice_get (set_bindings xs) 0
first_binding [] = refl
first_binding (x ∷ xs) =
    elim (x.is_set) as (λ t. option_map binding_of (cond t (Some x) (find was_set xs)) ≡ slice_get (map binding_of (cond t (x ∷ filter was_set xs) (filter was_set xs))) 0) [
      | true ↦ refl
      | false ↦ first_binding xs
    ]

pub first_there : (xs ys : List DeviceObject) (k : ℕ) (x : DeviceObject) (b : VarBind) → xs ≡ ys → k ≡ position_or_len was_set xs → k < length ys
    → x ≡ get_or ys k x → b ≡ binding_of x → Some b ≡ slice_get (set_bindings ys) 0
first_there xs ys k x b e place lt at is =
    let here : k ≡ position_or_len was_set ys = place ∙ ap (position_or_len was_set) e in
    let there : find was_set ys ≡ Some (get_or ys (position_or_len was_set ys) x) = found_first was_set ys x (rw (← here) lt) in
    ap Some (is ∙ ap binding_of (at ∙ ap (λ i. get_or ys i x) here)) ∙ ap (option_map binding_of) (sym there) ∙ first_binding ys

pub first_missing : (xs ys : List DeviceObject) (k : ℕ) → xs ≡ ys → k ≡ position_or_len was_set xs → k ≡ length ys
    → None ≡ slice_get (set_bindings ys) 0
first_missing xs ys k e place last =
    let here : position_or_len was_set ys ≡ length ys = sym (place ∙ ap (position_or_len was_set) e) ∙ last in
    ap (option_map binding_of) (sym (none_first was_set ys here)) ∙ first_binding ys

others_step : (x : DeviceObject) (xs : List DeviceObject) (t : Bool) → x.is_set ≡ t → set_bindings (told_first xs) ≡ drop 1 (set_bindings xs)
    → set_bindings (told_first (x ∷ xs)) ≡ drop 1 (set_bindings (x ∷ xs))
others_step x xs true e more = rw e refl
others_step x xs false e more = rw e more

pub others_left : (xs : List DeviceObject) → set_bindings (told_first xs) ≡ drop 1 (set_bindings xs)
others_left [] = refl
others_left (x ∷ xs) = others_step x xs x.is_set refl (others_left xs)

told_all : (n : List ℕ) (xs : List DeviceObject) → list_all (comes_after n) (told_first xs) ≡ list_all (comes_after n) xs
told_all n [] = refl
told_all n (x ∷ xs) =
    elim (x.is_set) as (λ t. list_all (comes_after n) (cond t (told x ∷ xs) (x ∷ told_first xs)) ≡ (comes_after n x && list_all (comes_after n) xs)) [
      | true ↦ refl
      | false ↦ ap (λ t. comes_after n x && t) (told_all n xs)
    ]

told_rises : (xs : List DeviceObject) → rises (told_first xs) ≡ rises xs
told_rises [] = refl
told_rises (x ∷ xs) =
    elim (x.is_set) as (λ t. rises (cond t (told x ∷ xs) (x ∷ told_first xs)) ≡ (list_all (comes_after x.name) xs && rises xs)) [
      | true ↦ refl
      | false ↦ ap₂ (λ (a b : Bool). a && b) (told_all x.name xs) (told_rises xs)
    ]

pub rises_told : (xs : List DeviceObject) → rises xs ≡ true → rises (told_first xs) ≡ true
rises_told xs r = told_rises xs ∙ r

told_at_first : (xs : List DeviceObject) (d : DeviceObject) → position_or_len was_set xs < length xs
    → set xs (position_or_len was_set xs) (told (get_or xs (position_or_len was_set xs) d)) ≡ told_first xs
told_at_first [] d lt = absurd (omega arith)
told_at_first (x ∷ xs) d lt =
    let k = position_or_len was_set xs in
    let at : Bool → ℕ = λ t. cond (not t) (1 + k) 0 in
    let one : suc k ≡ 1 + k = omega arith in
    let more : at false < length (x ∷ xs) → set (x ∷ xs) (at false) (told (get_or (x ∷ xs) (at false) d)) ≡ x ∷ told_first xs =
    λ lt. subst (λ i. set (x ∷ xs) i (told (get_or (x ∷ xs) i d)) ≡ x ∷ told_first xs) one (ap (λ ys. x ∷ ys) (told_at_first xs d (omega arith)))
    in
    (elim (x.is_set) as (λ t. at t < length (x ∷ xs) → set (x ∷ xs) (at t) (told (get_or (x ∷ xs) (at t) d)) ≡ cond t (told x ∷ xs) (x ∷ told_first xs)) [ true ↦ λ lt. refl | false ↦ more ]) lt

told_at_none : (xs : List DeviceObject) → position_or_len was_set xs ≡ length xs → xs ≡ told_first xs
told_at_none [] e = refl
told_at_none (x ∷ xs) e =
    let k = position_or_len was_set xs in
    let at : Bool → ℕ = λ t. cond (not t) (1 + k) 0 in
    let first : at true ≡ length (x ∷ xs) → x ∷ xs ≡ told x ∷ xs = λ e. absurd (omega arith) in
    let more : at false ≡ length (x ∷ xs) → x ∷ xs ≡ x ∷ told_first xs = λ e. ap (λ ys. x ∷ ys) (told_at_none xs (omega arith)) in
    (elim (x.is_set) as (λ t. at t ≡ length (x ∷ xs) → x ∷ xs ≡ cond t (told x ∷ xs) (x ∷ told_first xs)) [ true ↦ first | false ↦ more ]) e

pub told_there : (xs ys : List DeviceObject) (k : ℕ) (x new : DeviceObject) → xs ≡ ys → k ≡ position_or_len was_set xs → k < length ys
    → x ≡ get_or ys k x → new ≡ told x → set ys k new ≡ told_first ys
told_there xs ys k x new e place lt at is =
    let here : k ≡ position_or_len was_set ys = place ∙ ap (position_or_len was_set) e in
    let done = told_at_first ys x (rw (← here) lt) in
    ap (set ys k) (is ∙ ap told at) ∙ ap (λ i. set ys i (told (get_or ys i x))) here ∙ done

pub told_none : (xs ys : List DeviceObject) (k : ℕ) → xs ≡ ys → k ≡ position_or_len was_set xs → k ≡ length ys → ys ≡ told_first ys
told_none xs ys k e place last =
    told_at_none ys (sym (place ∙ ap (position_or_len was_set) e) ∙ last)

pub none_was_set : (xs : List DeviceObject) (k : ℕ) → length xs ≤ k → ((j : ℕ) (d : DeviceObject) → j < k → was_set (get_or xs j d) ≡ false)
    → length xs ≡ position_or_len was_set xs
none_was_set [] k le none = refl
none_was_set (x ∷ xs) k le none =
    let fails = λ (j : ℕ) (lt : j < length (x ∷ xs)). none j x (omega arith) in
    sym (position_or_len_is was_set (x ∷ xs) (length (x ∷ xs)) x (omega arith) fails (λ lt. absurd (omega arith)))

pub first_was_set : (xs : List DeviceObject) (k : ℕ) (x : DeviceObject) → k < length xs → ((j : ℕ) (d : DeviceObject) → j < k → was_set (get_or xs j d) ≡ false)
    → x ≡ get_or xs k x → was_set x ≡ true → k ≡ position_or_len was_set xs
first_was_set xs k x lt none at is =
    sym (position_or_len_is was_set xs k x (omega arith) (λ j g. none j x g) (λ _. subst (λ o. was_set o ≡ true) at is))

each_comes_after : (n : List ℕ) (xs : List DeviceObject) → list_all (comes_after n) (map told xs) ≡ list_all (comes_after n) xs
each_comes_after n [] = refl
each_comes_after n (x ∷ xs) = ap (λ t. comes_after n x && t) (each_comes_after n xs)

all_told_rise : (xs : List DeviceObject) → rises (map told xs) ≡ rises xs
all_told_rise [] = refl
all_told_rise (x ∷ xs) = ap₂ (λ (a b : Bool). a && b) (each_comes_after x.name xs) (all_told_rise xs)

pub rises_all_told : (xs ys : List DeviceObject) → ys ≡ map told xs → rises xs ≡ true → rises ys ≡ true
rises_all_told xs ys is r = ap rises is ∙ all_told_rise xs ∙ r

pub ruleset all_told = (rises_all_told)
