-- A list with an element more at its end; choices.
use Rattle.std.proofs.Common.{◌≡◌, ℕ, zero, suc, ◌+◌, ◌⊎◌, inl, inr, Bool, true, false, cond, if◌then◌else◌, List, [], ◌∷◌, ◌++◌, length, Some, slice_get, refl, ap, ◌∙◌, arith}
use Rattle.std.specs.Prelude.{count_by}
use Rattle.std.proofs.lemmas.List.Sums.{sum_by-cons, sum_by_push}
use Rattle.std.proofs.lemmas.Option.{none-some, same_Some}

pub either_way : {A : Type 0} (P : A → Type 0) (b : Bool) (x y : A) → P x → P y → P (if b then x else y)
either_way P b x y p q = grind arith

pub by_test : {A : Type 0} (P : A → Type 0) (b : Bool) (x y : A) → (b ≡ true → P x) → (b ≡ false → P y) → P (if b then x else y)
by_test P b x y p q = grind arith

pub on_left : {X : Type 0} (xs ys : List X) (k : ℕ) (x : X) → slice_get xs k ≡ Some x → slice_get (xs ++ ys) k ≡ Some x
on_left [] ys k x e = absurd (none-some x e)
on_left (y ∷ xs) ys zero x e = e
on_left (y ∷ xs) ys (suc k) x e = on_left xs ys k x e

pub at_end : {X : Type 0} (xs : List X) (y : X) → slice_get (xs ++ y ∷ []) (length xs) ≡ Some y
at_end [] y = refl
at_end (x ∷ xs) y = at_end xs y

-- an element of the longer list is one of the shorter, or the new one
pub in_push : {X : Type 0} (xs : List X) (y : X) (k : ℕ) (x : X) → slice_get (xs ++ y ∷ []) k ≡ Some x
    → (slice_get xs k ≡ Some x) ⊎ ((k ≡ length xs) × (y ≡ x))
in_push [] y zero x e = inr (refl, same_Some y x e)
in_push [] y (suc k) x e = absurd (none-some x e)
in_push (z ∷ xs) y zero x e = inl e
in_push (z ∷ xs) y (suc k) x e = elim (in_push xs y k x e) [ inl here ↦ inl here | inr there ↦ inr (ap suc there.0, there.1) ]

pub count_push : {X : Type 0} (p : X → Bool) (xs : List X) (y : X) → count_by p (xs ++ y ∷ []) ≡ count_by p xs + cond {A = ℕ} (p y) 1 0
count_push p xs y = sum_by_push (λ x. cond (p x) 1 0) xs y

pub count_none : {X : Type 0} (p : X → Bool) (xs : List X) → ((k : ℕ) (x : X) → slice_get xs k ≡ Some x → p x ≡ false) → count_by p xs ≡ 0
count_none p [] h = refl
count_none p (x ∷ xs) h =
    let first : cond {A = ℕ} (p x) 1 0 ≡ 0 = ap (λ b. cond {A = ℕ} b 1 0) (h 0 x refl) in
    let others = count_none p xs (λ k y e. h (suc k) y e) in
    sum_by-cons (λ y. cond (p y) 1 0) x xs ∙ omega (arith, first, others)
