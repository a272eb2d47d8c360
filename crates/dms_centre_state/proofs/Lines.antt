-- The lines of a ledger are those of its entries.
use Rattle.std.proofs.Common.{◌≡◌, ℕ, List, [], ◌∷◌, ◌++◌, map, flat_map, refl, ap}

pub flat_seen : {A B : Type 0} (lines : B → List ℕ) (model : A → B) (xs : List A) → flat_map (λ x. lines (model x)) xs ≡ flat_map lines (map model xs)
flat_seen lines model [] = refl
flat_seen lines model (x ∷ xs) = ap (λ rest. lines (model x) ++ rest) (flat_seen lines model xs)
