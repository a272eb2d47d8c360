-- A list cut at an element.
use Rattle.std.proofs.Common.{◌≡◌, ℕ, ◌+◌, ◌-◌, ◌≤◌, Bool, true, false, cond, List, [], ◌∷◌, length, take, drop, Some, None, refl, sym, ap, ◌∙◌, arith}
use Rattle.std.specs.List.{slice_split, position, position_or_len}
use Rattle.std.proofs.lemmas.Bool.{ltb-false}
use Rattle.std.proofs.lemmas.List.{take_rest}
use Rattle.std.proofs.lemmas.List.Quantifiers.{position-Some}
use Rattle.std.proofs.lemmas.List.Splits.{slice_split_first, slice_split_none}
use Rattle.std.proofs.lemmas.List.Sums.{fails_before_first, position_or_len_is}

-- the first element that passes ends the first part
pub first_part : (p : ℕ → Bool) (xs : List ℕ) (n : ℕ) → position p xs ≡ Some n
    → slice_split p xs ≡ take n xs ∷ slice_split p (take (length xs - (n + 1)) (drop (n + 1) xs))
first_part p xs n found =
    let at = position-Some p xs n 0 found in
    let same : position_or_len p xs ≡ n = position_or_len_is p xs n 0 (omega arith) at.2 (λ _. at.1) in
    slice_split_first p xs 0 (omega arith) ∙ ap (λ k. take k xs ∷ slice_split p (drop (k + 1) xs)) same
    ∙ ap (λ rest. take n xs ∷ slice_split p rest) (sym (take_rest xs (n + 1)))

pub none_test : (test : Bool) (n : ℕ) → cond test (Some n) None ≡ None → test ≡ false
none_test true n e = cc
none_test false n e = refl

-- where none passes, the list is the only part
pub only_part : (p : ℕ → Bool) (xs : List ℕ) → position p xs ≡ None → slice_split p xs ≡ xs ∷ []
only_part p xs none =
    let past : length xs ≤ position_or_len p xs = ltb-false _ _ (none_test _ _ none) in
    slice_split_none p xs (λ k d below. fails_before_first p xs k d (omega arith))

pub ruleset parts = (first_part, only_part)
