-- Lists of numbers that are all below a base.
use Rattle.std.proofs.Common.{ℕ, ◌+◌, ◌-◌, List, [], ◌∷◌, ◌++◌, map, arith}
use Rattle.std.specs.Int.Digits.{AllBelowBase}

pub below-append : (b : ℕ) (xs ys : List ℕ) → AllBelowBase b xs → AllBelowBase b ys → AllBelowBase b (xs ++ ys)
below-append b [] ys f g = g
below-append b (x ∷ xs) ys f g = (f.0, below-append b xs ys f.1 g)

pub below_front : (b : ℕ) (xs ys : List ℕ) → AllBelowBase b (xs ++ ys) → AllBelowBase b xs
below_front b [] ys h = tt
below_front b (x ∷ xs) ys h = (h.0, below_front b xs ys h.1)

pub below_back : (b : ℕ) (xs ys : List ℕ) → AllBelowBase b (xs ++ ys) → AllBelowBase b ys
below_back b [] ys h = h
below_back b (x ∷ xs) ys h = below_back b xs ys h.1

pub below_shifted : (b : ℕ) (xs : List ℕ) → AllBelowBase b xs → AllBelowBase (b + b) (map (λ x. b + x) xs)
below_shifted b [] h = tt
below_shifted b (x ∷ xs) h = (omega (arith, h.0), below_shifted b xs h.1)

pub below_inverted : (xs : List ℕ) → AllBelowBase 256 (map (λ x. 255 - x) xs)
below_inverted [] = tt
below_inverted (x ∷ xs) = (omega arith, below_inverted xs)
