-- How many octets of two texts are the same before the first that differs.
use Rattle.std.proofs.Common.{◌≡◌, ℕ, ◌+◌, ◌<◌, ◌≤◌, ◌==◌, ◌⊎◌, cond, false, true, List, [], ◌∷◌, length, get_or, drop, min, refl, sym, ap, ◌∙◌, add-one, drop-cons, arith, inl, inr}
use Rattle.std.proofs.Math.Nat.{min-eq_left, min-eq_right}
use Rattle.std.proofs.lemmas.Bool.{cases_lt}
use Rattle.std.proofs.lemmas.List.{drop_all}
use Rattle.dms_centre_restored.specs.StateReading.{same_front}

-- so many are, and then those of what is left
abbrev pub so_far : List ℕ → List ℕ → ℕ → ℕ
so_far one other index = index + same_front (drop index one) (drop index other)

at_index : (one other : List ℕ) (index : ℕ) → index < length one → index < length other
    → so_far one other index ≡ index + cond (get_or one index 0 == get_or other index 0) (1 + same_front (drop (index + 1) one) (drop (index + 1) other)) 0
at_index one other index less more =
    let k = sym (add-one index) in
    ap (λ octets. index + same_front octets (drop index other)) (drop-cons one index 0 less ∙ ap (λ k. get_or one index 0 ∷ drop k one) k)
    ∙ ap (λ octets. index + same_front (get_or one index 0 ∷ drop (index + 1) one) octets) (drop-cons other index 0 more ∙ ap (λ k. get_or other index 0 ∷ drop k other) k)

-- the octets at an index are the same
pub one_more : (one other : List ℕ) (index : ℕ) → index < length one → index < length other → (get_or one index 0 == get_or other index 0) ≡ true
    → so_far one other (index + 1) ≡ so_far one other index
one_more one other index less more same =
    let front = same_front (drop (index + 1) one) (drop (index + 1) other) in
    let here : so_far one other index ≡ index + (1 + front) = at_index one other index less more ∙ ap (λ b. index + cond b (1 + front) 0) same in
    omega (arith, here)

-- they differ
pub no_more : (one other : List ℕ) (index : ℕ) → index < length one → index < length other → (get_or one index 0 == get_or other index 0) ≡ false
    → so_far one other index ≡ index
no_more one other index less more differ =
    let front = same_front (drop (index + 1) one) (drop (index + 1) other) in
    let here : so_far one other index ≡ index + 0 = at_index one other index less more ∙ ap (λ b. index + cond b (1 + front) 0) differ in
    omega (arith, here)

front_none : (octets : List ℕ) → same_front octets [] ≡ 0
front_none [] = refl
front_none (octet ∷ octets) = refl

-- one of them ends there
pub one_ends : (one other : List ℕ) (index : ℕ) → length one ≤ index → so_far one other index ≡ index
one_ends one other index past =
    let none : so_far one other index ≡ index + 0 = ap (λ octets. index + same_front octets (drop index other)) (drop_all index one past) in
    omega (arith, none)

pub other_ends : (one other : List ℕ) (index : ℕ) → length other ≤ index → so_far one other index ≡ index
other_ends one other index past =
    let none : so_far one other index ≡ index + 0 =
    ap (λ octets. index + same_front (drop index one) octets) (drop_all index other past) ∙ ap (λ n. index + n) (front_none (drop index one)) in
    omega (arith, none)

-- as far as both go
pub all_same : (one other : List ℕ) (most index : ℕ) → most ≡ min (length one) (length other) → most ≤ index → index ≤ most → so_far one other index ≡ same_front one other
    → most ≡ same_front one other
all_same one other most index is past within read =
    let at : most ≡ index = omega (arith, past, within) in
    at ∙ sym (ends (cases_lt (length one) (length other))) ∙ read
  where
    ends : (length one < length other) ⊎ (length other ≤ length one) → so_far one other index ≡ index
    ends (inl less) = let m : most ≡ length one = is ∙ min-eq_left (omega (arith, less)) in one_ends one other index (omega (arith, m, past))
    ends (inr more) = let m : most ≡ length other = is ∙ min-eq_right more in other_ends one other index (omega (arith, m, past))
