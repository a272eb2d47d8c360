-- Where the elements of a list that is made of others come from.
use Rattle.std.proofs.Common.{◌≡◌, ◌⊎◌, inl, inr, ℕ, zero, suc, ◌+◌, ◌<◌, ◌≤◌, List, [], ◌∷◌, ◌++◌, map, flat_map, Some, slice_get, refl, ap, subst, arith}
use Rattle.std.specs.List.{range_with_len}

-- an element of the list
abbrev pub In : {X : Type 0} → List X → X → Type 0
In xs x = (k : ℕ) × (slice_get xs k ≡ Some x)

pub in_left : {X : Type 0} (xs ys : List X) (k : ℕ) (x : X) → slice_get xs k ≡ Some x → In (xs ++ ys) x
in_left [] ys k x h = absurd (cc)
in_left (z ∷ xs) ys zero x h = (0, h)
in_left (z ∷ xs) ys (suc k) x h = let i = in_left xs ys k x h in (suc i.0, i.1)

pub in_right : {X : Type 0} (xs ys : List X) (x : X) → In ys x → In (xs ++ ys) x
in_right [] ys x i = i
in_right (z ∷ xs) ys x i = let i = in_right xs ys x i in (suc i.0, i.1)

pub in_either : {X : Type 0} (xs ys : List X) (k : ℕ) (x : X) → slice_get (xs ++ ys) k ≡ Some x → In xs x ⊎ In ys x
in_either [] ys k x h = inr (k, h)
in_either (z ∷ xs) ys zero x h = inl (0, h)
in_either (z ∷ xs) ys (suc k) x h = elim (in_either xs ys k x h) [ inl i ↦ inl (suc i.0, i.1) | inr i ↦ inr i ]

pub in_map : {X Y : Type 0} (f : X → Y) (xs : List X) (k : ℕ) (x : X) → slice_get xs k ≡ Some x → In (map f xs) (f x)
in_map f [] k x h = absurd (cc)
in_map f (z ∷ xs) zero x h = let is : z ≡ x = cc in (0, ap (λ z. Some (f z)) is)
in_map f (z ∷ xs) (suc k) x h = let i = in_map f xs k x h in (suc i.0, i.1)

pub of_map : {X Y : Type 0} (f : X → Y) (xs : List X) (k : ℕ) (y : Y) → slice_get (map f xs) k ≡ Some y → (x : X) × (f x ≡ y) × In xs x
of_map f [] k y h = absurd (cc)
of_map f (z ∷ xs) zero y h = let is : f z ≡ y = cc in (z, is, (0, refl))
of_map f (z ∷ xs) (suc k) y h = let o = of_map f xs k y h in (o.0, o.1, (suc o.2.0, o.2.1))

pub in_flat : {X Y : Type 0} (f : X → List Y) (xs : List X) (k : ℕ) (x : X) (y : Y) → slice_get xs k ≡ Some x → In (f x) y → In (flat_map f xs) y
in_flat f [] k x y h i = absurd (cc)
in_flat f (z ∷ xs) zero x y h i =
    let is : x ≡ z = cc in
    let i : In (f z) y = subst (λ x. In (f x) y) is i in
    in_left (f z) (flat_map f xs) i.0 y i.1
in_flat f (z ∷ xs) (suc k) x y h i = in_right (f z) (flat_map f xs) y (in_flat f xs k x y h i)

pub of_flat : {X Y : Type 0} (f : X → List Y) (xs : List X) (k : ℕ) (y : Y) → slice_get (flat_map f xs) k ≡ Some y → (x : X) × In xs x × In (f x) y
of_flat f [] k y h = absurd (cc)
of_flat f (z ∷ xs) k y h =
    elim (in_either (f z) (flat_map f xs) k y h) [
      | inl here ↦ (z, (0, refl), here)
      | inr there ↦ let o = of_flat f xs there.0 y there.1 in (o.0, (suc o.1.0, o.1.1), o.2)
    ]

pub in_range : (a n k j : ℕ) → a + k ≡ j → k < n → In (range_with_len a n) j
in_range a zero k j e h = absurd (omega (arith, h))
in_range a (suc n) zero j e h = let is : a ≡ j = omega arith in (0, ap Some is)
in_range a (suc n) (suc k) j e h = let i = in_range (a + 1) n k j (omega arith) (omega arith) in (suc i.0, i.1)

pub of_range : (a n k j : ℕ) → slice_get (range_with_len a n) k ≡ Some j → (a ≤ j) × (j < a + n)
of_range a zero k j h = absurd (cc)
of_range a (suc n) zero j h = let is : a ≡ j = cc in (omega arith, omega arith)
of_range a (suc n) (suc k) j h = let o = of_range (a + 1) n k j h in (omega (arith, o.0), omega (arith, o.1))
