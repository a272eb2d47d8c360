-- What putting an object into its place, taking one away and setting one leave.
use Rattle.std.proofs.Common.{◌≡◌, ℕ, zero, suc, ◌+◌, ◌<◌, Bool, true, false, ◌&&◌, not, cond, Less, Equal, Greater, Ordering, List, [], ◌∷◌, get_or, set, map, filter, length, refl, sym, ap, ap₂, subst, ◌∙◌, arith}
use Rattle.std.specs.List.{list_all, list_any, position_or_len, insert, remove}
use Rattle.std.proofs.lemmas.Bool.{and_parts, and_from, or_parts, both_ways, false_from_ne_true}
use Rattle.std.specs.Ordering.{is_lt, ordering_reverse}
use Rattle.std.proofs.lemmas.Cmp.{nat_list_cmp_total}
use Rattle.std.proofs.lemmas.Map.Lookups.{exact_bytes}
use Rattle.dms_wire_ber.proofs.NameOrderLaws.{before_trans, not_before_itself}
use Rattle.dms_wire_ber.specs.NameOrder.{numbers_cmp, is_before}
use Rattle.dms_wire.specs.Message.{VarBind}
use Rattle.dms_device.specs.Object.{DeviceObject}
use Rattle.dms_device.specs.Objects.{has_name, comes_after, rises}
use Rattle.dms_device.specs.Publishing.{published, withdrawn}
use Rattle.dms_device.specs.Setting.{set_to, set_by_binding}
use Rattle.dms_device.proofs.Found.{HasNameAt}
use Rattle.dms_device.proofs.Order.{same_name, names_itself, before_differs, after_differs, all_at, none_of, all_after}

-- ---- publishing

-- a name that is before another does not come after it
not_both : (a b : List ℕ) → is_before a b ≡ true → is_before b a ≡ false
not_both a b h =
    false_from_ne_true (is_before b a) λ g. both_ways (is_before a a) (not_before_itself a) (before_trans a b a h g)

-- in place of the object that has the name
pub published_there : (xs : List DeviceObject) (o : DeviceObject) (k : ℕ) (d : DeviceObject) → rises xs ≡ true → k < length xs
    → has_name o.name (get_or xs k d) ≡ true → set xs k o ≡ published xs o
published_there [] o k d r lt h = absurd (omega arith)
published_there (x ∷ xs) o zero d r lt h =
    let itself : is_before o.name x.name ≡ false =
    subst (λ n. is_before o.name n ≡ false) (sym (same_name o.name x h)) (not_before_itself o.name) in
    rw (itself, h) refl
published_there (x ∷ xs) o (suc k) d r lt h =
    let parts = and_parts (list_all (comes_after x.name) xs) (rises xs) r in
    let before : is_before x.name o.name ≡ true =
    subst (λ n. is_before x.name n ≡ true) (same_name o.name (get_or xs k d) h) (all_at (comes_after x.name) xs k d parts.0 (omega arith))
    in
    rw (not_both x.name o.name before, after_differs o.name x before) (ap (λ ys. x ∷ ys) (published_there xs o k d parts.1 (omega arith) h))

inserted_more : {X : Type 0} (x : X) (xs : List X) (k : ℕ) (y : X) → insert (x ∷ xs) (1 + k) y ≡ x ∷ insert xs k y
inserted_more x xs k y =
    let one : suc k ≡ 1 + k = omega arith in
    subst (λ i. insert (x ∷ xs) i y ≡ x ∷ insert xs k y) one refl

published_step : (x : DeviceObject) (xs : List DeviceObject) (o : DeviceObject) (t : Bool) → comes_after o.name x ≡ t → has_name o.name x ≡ false
    → insert xs (position_or_len (comes_after o.name) xs) o ≡ published xs o
    → insert (x ∷ xs) (position_or_len (comes_after o.name) (x ∷ xs)) o ≡ published (x ∷ xs) o
published_step x xs o true e h more = rw e refl
published_step x xs o false e h more =
    rw (e, h) (inserted_more x xs (position_or_len (comes_after o.name) xs) o ∙ ap (λ ys. x ∷ ys) more)

-- where no object has the name, before the first that comes after it
pub published_new : (xs : List DeviceObject) (o : DeviceObject) → list_any (has_name o.name) xs ≡ false
    → insert xs (position_or_len (comes_after o.name) xs) o ≡ published xs o
published_new [] o h = refl
published_new (x ∷ xs) o h =
    let parts = or_parts (has_name o.name x) (list_any (has_name o.name) xs) h in
    let more = published_new xs o parts.1 in
    published_step x xs o (comes_after o.name x) refl parts.0 more

-- ---- the order stays

later : (a b : List ℕ) (o : Ordering) → numbers_cmp a b ≡ o → is_lt o ≡ false → (o ≡ Equal → ⊥) → numbers_cmp a b ≡ Greater
later a b Less e h g = absurd (both_ways true h refl)
later a b Equal e h g = absurd (g refl)
later a b Greater e h g = e

-- of two names the one that is not before the other, and is not the other, comes after it
one_first : (name : List ℕ) (x : DeviceObject) → is_before name x.name ≡ false → has_name name x ≡ false → is_before x.name name ≡ true
one_first name x h g =
    let apart : numbers_cmp name x.name ≡ Equal → ⊥ =
    λ e. both_ways (has_name name x) g (names_itself name x (sym (exact_bytes name x.name e))) in
    let greater = later name x.name (numbers_cmp name x.name) refl h apart in
    ap is_lt (nat_list_cmp_total.antisymm x.name name ∙ ap ordering_reverse greater)

all_published_step : (n : List ℕ) (x : DeviceObject) (xs : List DeviceObject) (o : DeviceObject) (t s : Bool) → comes_after n x ≡ true
    → list_all (comes_after n) xs ≡ true → is_before n o.name ≡ true → list_all (comes_after n) (published xs o) ≡ true
    → comes_after o.name x ≡ t → has_name o.name x ≡ s → list_all (comes_after n) (published (x ∷ xs) o) ≡ true
all_published_step n x xs o true s hx all h more e f = rw (e, h, hx) all
all_published_step n x xs o false true hx all h more e f = rw (e, f, h) all
all_published_step n x xs o false false hx all h more e f = rw (e, f, hx) more

all_published : (n : List ℕ) (xs : List DeviceObject) (o : DeviceObject) → list_all (comes_after n) xs ≡ true → is_before n o.name ≡ true
    → list_all (comes_after n) (published xs o) ≡ true
all_published n [] o all h = rw h refl
all_published n (x ∷ xs) o all h =
    let parts = and_parts (comes_after n x) (list_all (comes_after n) xs) all in
    all_published_step n x xs o (comes_after o.name x) (has_name o.name x) parts.0 parts.1 h (all_published n xs o parts.1 h) refl refl

rises_published_step : (x : DeviceObject) (xs : List DeviceObject) (o : DeviceObject) (t s : Bool) → rises (x ∷ xs) ≡ true
    → list_all (comes_after x.name) xs ≡ true → rises xs ≡ true → rises (published xs o) ≡ true
    → comes_after o.name x ≡ t → has_name o.name x ≡ s → rises (published (x ∷ xs) o) ≡ true
rises_published_step x xs o true s r all more put e f = rw (e, e, all_after o.name x xs e all) r
rises_published_step x xs o false true r all more put e f =
    rw (e, f) (and_from _ _ (subst (λ n. list_all (comes_after n) xs ≡ true) (same_name o.name x f) all) more)
rises_published_step x xs o false false r all more put e f =
    rw (e, f) (and_from _ _ (all_published x.name xs o all (one_first o.name x e f)) put)

pub rises_published : (xs : List DeviceObject) (o : DeviceObject) → rises xs ≡ true → rises (published xs o) ≡ true
rises_published [] o r = refl
rises_published (x ∷ xs) o r =
    let parts = and_parts (list_all (comes_after x.name) xs) (rises xs) r in
    rises_published_step x xs o (comes_after o.name x) (has_name o.name x) r parts.0 parts.1 (rises_published xs o parts.1) refl refl

-- ---- withdrawing

pub all_stay : (name : List ℕ) (xs : List DeviceObject) → list_any (has_name name) xs ≡ false → xs ≡ withdrawn xs name
all_stay name [] h = refl
all_stay name (x ∷ xs) h =
    let parts = or_parts (has_name name x) (list_any (has_name name) xs) h in
    rw parts.0 (ap (λ ys. x ∷ ys) (all_stay name xs parts.1))

pub withdrawn_there : (name : List ℕ) (xs : List DeviceObject) (k : ℕ) (d : DeviceObject) → rises xs ≡ true → k < length xs
    → has_name name (get_or xs k d) ≡ true → remove xs k ≡ withdrawn xs name
withdrawn_there name [] k d r lt h = absurd (omega arith)
withdrawn_there name (x ∷ xs) zero d r lt h =
    let parts = and_parts (list_all (comes_after x.name) xs) (rises xs) r in
    let same = same_name name x h in
    let none : list_any (has_name name) xs ≡ false =
    none_of (comes_after x.name) (has_name name) (λ y g. before_differs name y (subst (λ n. is_before n y.name ≡ true) same g)) xs parts.0
    in
    rw h (all_stay name xs none)
withdrawn_there name (x ∷ xs) (suc k) d r lt h =
    let parts = and_parts (list_all (comes_after x.name) xs) (rises xs) r in
    let before : is_before x.name name ≡ true =
    subst (λ n. is_before x.name n ≡ true) (same_name name (get_or xs k d) h) (all_at (comes_after x.name) xs k d parts.0 (omega arith))
    in
    rw (after_differs name x before) (ap (λ ys. x ∷ ys) (withdrawn_there name xs k d parts.1 (omega arith) h))

all_filtered : {X : Type 0} (p q : X → Bool) (xs : List X) → list_all p xs ≡ true → list_all p (filter q xs) ≡ true
all_filtered p q [] h = refl
all_filtered p q (x ∷ xs) h =
    let parts = and_parts (p x) (list_all p xs) h in
    let more = all_filtered p q xs parts.1 in
    elim (q x) as (λ t. list_all p (cond t (x ∷ filter q xs) (filter q xs)) ≡ true) [ true ↦ rw parts.0 more | false ↦ more ]

pub rises_filtered : (q : DeviceObject → Bool) (xs : List DeviceObject) → rises xs ≡ true → rises (filter q xs) ≡ true
rises_filtered q [] h = refl
rises_filtered q (x ∷ xs) h =
    let parts = and_parts (list_all (comes_after x.name) xs) (rises xs) h in
    let more = rises_filtered q xs parts.1 in
    elim (q x) as (λ t. rises (cond t (x ∷ filter q xs) (filter q xs)) ≡ true) [
      | true ↦ rw (all_filtered (comes_after x.name) q xs parts.0) more
      | false ↦ more
    ]

-- ---- setting

-- a change keeps each object's name
abbrev pub KeepsNames : (DeviceObject → DeviceObject) → Type 0
KeepsNames f = (o : DeviceObject) → (f o).name ≡ o.name

all_mapped : (f : DeviceObject → DeviceObject) → KeepsNames f → (n : List ℕ) (xs : List DeviceObject)
    → list_all (comes_after n) (map f xs) ≡ list_all (comes_after n) xs
all_mapped f keeps n [] = refl
all_mapped f keeps n (x ∷ xs) = ap₂ (λ (a b : Bool). a && b) (ap (is_before n) (keeps x)) (all_mapped f keeps n xs)

rises_mapped : (f : DeviceObject → DeviceObject) → KeepsNames f → (xs : List DeviceObject) → rises (map f xs) ≡ rises xs
rises_mapped f keeps [] = refl
rises_mapped f keeps (x ∷ xs) =
    ap₂ (λ (a b : Bool). a && b) (ap (λ n. list_all (comes_after n) (map f xs)) (keeps x) ∙ all_mapped f keeps x.name xs) (rises_mapped f keeps xs)

set_keeps : (b : VarBind) (o : DeviceObject) → (set_by_binding b o).name ≡ o.name
set_keeps b o = grind arith

pub rises_set : (b : VarBind) (xs : List DeviceObject) → rises xs ≡ true → rises (map (set_by_binding b) xs) ≡ true
rises_set b xs r = rises_mapped (set_by_binding b) (set_keeps b) xs ∙ r

pub none_set : (b : VarBind) (xs : List DeviceObject) → list_any (has_name b.name) xs ≡ false → xs ≡ map (set_by_binding b) xs
none_set b [] h = refl
none_set b (x ∷ xs) h =
    let parts = or_parts (has_name b.name x) (list_any (has_name b.name) xs) h in
    rw parts.0 (ap (λ ys. x ∷ ys) (none_set b xs parts.1))

pub set_there : (b : VarBind) (xs : List DeviceObject) (k : ℕ) (d : DeviceObject) → rises xs ≡ true → k < length xs
    → has_name b.name (get_or xs k d) ≡ true → set xs k (set_to (get_or xs k d) b.value) ≡ map (set_by_binding b) xs
set_there b [] k d r lt h = absurd (omega arith)
set_there b (x ∷ xs) zero d r lt h =
    let parts = and_parts (list_all (comes_after x.name) xs) (rises xs) r in
    let same = same_name b.name x h in
    let none : list_any (has_name b.name) xs ≡ false =
    none_of (comes_after x.name) (has_name b.name) (λ y g. before_differs b.name y (subst (λ n. is_before n y.name ≡ true) same g)) xs parts.0
    in
    rw h (ap (λ ys. set_to x b.value ∷ ys) (none_set b xs none))
set_there b (x ∷ xs) (suc k) d r lt h =
    let parts = and_parts (list_all (comes_after x.name) xs) (rises xs) r in
    let before : is_before x.name b.name ≡ true =
    subst (λ n. is_before x.name n ≡ true) (same_name b.name (get_or xs k d) h) (all_at (comes_after x.name) xs k d parts.0 (omega arith))
    in
    rw (after_differs b.name x before) (ap (λ ys. x ∷ ys) (set_there b xs k d parts.1 (omega arith) h))

-- ---- what the calls leave, where the code has the list by two names

pub put_there : (name : List ℕ) (xs ys : List DeviceObject) (o : DeviceObject) (k : ℕ) → xs ≡ ys → name ≡ o.name → rises ys ≡ true
    → k < length xs → HasNameAt name xs k → set ys k o ≡ published ys o
put_there name xs ys o k e same r lt found =
    published_there ys o k o r (rw (← e) lt) (subst (λ n. has_name n (get_or ys k o) ≡ true) same (subst (λ l. has_name name (get_or l k o) ≡ true) e (found o)))

pub put_new : (name : List ℕ) (xs ys : List DeviceObject) (o : DeviceObject) (k : ℕ) → xs ≡ ys → name ≡ o.name
    → list_any (has_name name) xs ≡ false → k ≡ position_or_len (comes_after name) xs → insert ys k o ≡ published ys o
put_new name xs ys o k e same none place =
    let here : k ≡ position_or_len (comes_after o.name) ys =
    place ∙ ap (position_or_len (comes_after name)) e ∙ ap (λ n. position_or_len (comes_after n) ys) same in
    let missing : list_any (has_name o.name) ys ≡ false =
    subst (λ n. list_any (has_name n) ys ≡ false) same (subst (λ l. list_any (has_name name) l ≡ false) e none) in
    ap (λ i. insert ys i o) here ∙ published_new ys o missing

pub take_there : (name : List ℕ) (xs ys : List DeviceObject) (k : ℕ) (d : DeviceObject) → xs ≡ ys → rises ys ≡ true → k < length xs
    → HasNameAt name xs k → remove ys k ≡ withdrawn ys name
take_there name xs ys k d e r lt found =
    withdrawn_there name ys k d r (rw (← e) lt) (subst (λ l. has_name name (get_or l k d) ≡ true) e (found d))

pub take_none : (name : List ℕ) (xs ys : List DeviceObject) → xs ≡ ys → list_any (has_name name) xs ≡ false → ys ≡ withdrawn ys name
take_none name xs ys e none = all_stay name ys (subst (λ l. list_any (has_name name) l ≡ false) e none)

pub rises_withdrawn : (name : List ℕ) (xs : List DeviceObject) → rises xs ≡ true → rises (withdrawn xs name) ≡ true
rises_withdrawn name xs r = rises_filtered (λ o. not (has_name name o)) xs r

pub set_at : (b : VarBind) (xs ys : List DeviceObject) (k : ℕ) (x new : DeviceObject) → xs ≡ ys → rises ys ≡ true → k < length xs
    → HasNameAt b.name xs k → x ≡ get_or ys k x → new ≡ set_to x b.value → set ys k new ≡ map (set_by_binding b) ys
set_at b xs ys k x new e r lt found at is =
    let there = set_there b ys k x r (rw (← e) lt) (subst (λ l. has_name b.name (get_or l k x) ≡ true) e (found x)) in
    ap (set ys k) (is ∙ ap (λ o. set_to o b.value) at) ∙ there

pub set_none : (b : VarBind) (xs ys : List DeviceObject) → xs ≡ ys → list_any (has_name b.name) xs ≡ false → ys ≡ map (set_by_binding b) ys
set_none b xs ys e none = none_set b ys (subst (λ l. list_any (has_name b.name) l ≡ false) e none)
