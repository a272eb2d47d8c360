-- Loops that write each element of a list.
use Rattle.std.proofs.Common.{◌≡◌, ℕ, zero, suc, ◌+◌, ◌<◌, ◌≤◌, Bool, true, false, cond, List, [], ◌∷◌, map, length, get_or, set, take, Some, None, All, refl, ap, subst, ◌∙◌, sym, arith, add-one}
use Rattle.std.specs.Prelude.{position}
use Rattle.std.specs.List.{position_from}
use Rattle.std.proofs.lemmas.List.Sums.{position_or_len_is}
use Rattle.std.proofs.lemmas.Bool.{lt-ltb}
use Rattle.std.proofs.lemmas.List.{take_more, get_or-take, length-take-le}
use Rattle.std.proofs.lemmas.List.Elements.{All-cons, All-append}
use Rattle.std.proofs.lemmas.Iterator.Adapters.{position_from-zero}

-- f of each of the first elements, and the others as they are
abbrev pub mapped_up_to : {A : Type 0} → (A → A) → ℕ → List A → List A
mapped_up_to f zero xs = xs
mapped_up_to f (suc n) [] = []
mapped_up_to f (suc n) (x ∷ xs) = f x ∷ mapped_up_to f n xs

pub mapped_all : {A : Type 0} (f : A → A) (n : ℕ) (xs : List A) → length xs ≤ n → mapped_up_to f n xs ≡ map f xs
mapped_all f zero [] h = refl
mapped_all f zero (x ∷ xs) h = absurd (omega arith)
mapped_all f (suc n) [] h = refl
mapped_all f (suc n) (x ∷ xs) h = ap (λ ys. f x ∷ ys) (mapped_all f n xs (omega arith))

-- the next element is as it was
get_or-mapped_up_to : {A : Type 0} (f : A → A) (n : ℕ) (xs : List A) (d : A) → get_or (mapped_up_to f n xs) n d ≡ get_or xs n d
get_or-mapped_up_to f zero xs d = refl
get_or-mapped_up_to f (suc n) [] d = refl
get_or-mapped_up_to f (suc n) (x ∷ xs) d = get_or-mapped_up_to f n xs d

set-mapped_up_to : {A : Type 0} (f : A → A) (n : ℕ) (xs : List A) (d : A) → set (mapped_up_to f n xs) n (f (get_or xs n d)) ≡ mapped_up_to f (suc n) xs
set-mapped_up_to f zero [] d = refl
set-mapped_up_to f zero (x ∷ xs) d = refl
set-mapped_up_to f (suc n) [] d = refl
set-mapped_up_to f (suc n) (x ∷ xs) d = ap (λ ys. f x ∷ ys) (set-mapped_up_to f n xs d)

-- one element more
pub mapped_more : {A : Type 0} (f : A → A) (n : ℕ) (xs ys : List A) (d y : A) → ys ≡ mapped_up_to f n xs → y ≡ f (get_or ys n d) → set ys n y ≡ mapped_up_to f (n + 1) xs
mapped_more f n xs ys d y so_far becomes = grind (arith, get_or, get_or-mapped_up_to, set-mapped_up_to, add-one)

-- ---- what holds of each

pub all_more : {A : Type 0} (P : A → Type 0) (n : ℕ) (xs : List A) (d : A) → n < length xs → All P (take n xs) → P (get_or xs n d) → All P (take (n + 1) xs)
all_more P n xs d within before here =
    subst (All P) (sym (take_more xs n d within)) (All-append P (take n xs) (get_or xs n d ∷ []) before (All-cons P (get_or xs n d) [] here (λ k e h. absurd (omega arith))))

none_after : {A : Type 0} (p : A → Bool) (b : Bool) (i : ℕ) (x : A) (xs : List A) → p x ≡ b → (position_from p (i + 1) xs ≡ None → All (λ x. p x ≡ false) xs)
    → cond b (Some i) (position_from p (i + 1) xs) ≡ None → All (λ x. p x ≡ false) (x ∷ xs)
none_after p b i x xs is more h = grind arith

none_from : {A : Type 0} (p : A → Bool) (i : ℕ) (xs : List A) → position_from p i xs ≡ None → All (λ x. p x ≡ false) xs
none_from p i [] h = λ k d within. absurd (omega arith)
none_from p i (x ∷ xs) h = none_after p (p x) i x xs refl (none_from p (i + 1) xs) h

-- where no element is found, none passes
pub none_passes : {A : Type 0} (p : A → Bool) (xs : List A) → position p xs ≡ None → All (λ x. p x ≡ false) xs
none_passes p xs h = none_from p 0 xs (sym (position_from-zero p xs) ∙ h)

-- the place of the first element that passes
pub found_at : {A : Type 0} (p : A → Bool) (xs : List A) (i : ℕ) (d : A) → i < length xs → All (λ x. p x ≡ false) (take i xs) → p (get_or xs i d) ≡ true → position p xs ≡ Some i
found_at p xs i d within before here = grind (arith, get_or, get_or-take, length-take-le, position_or_len_is, lt-ltb)

nowhere_from : {A : Type 0} (p : A → Bool) (i : ℕ) (xs : List A) → All (λ x. p x ≡ false) xs → position_from p i xs ≡ None
nowhere_from p i [] each = refl
nowhere_from p i (x ∷ xs) each =
    ap (λ b. cond b (Some i) (position_from p (i + 1) xs)) (each 0 x (omega arith)) ∙ nowhere_from p (i + 1) xs (λ k d h. each (suc k) d (omega arith))

-- where none passes, none is found
pub found_nowhere : {A : Type 0} (p : A → Bool) (xs : List A) → All (λ x. p x ≡ false) xs → position p xs ≡ None
found_nowhere p xs each = position_from-zero p xs ∙ nowhere_from p 0 xs each
