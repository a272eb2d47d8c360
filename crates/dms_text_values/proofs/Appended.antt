-- What is appended in parts.
use Rattle.std.proofs.Common.{◌≡◌, ℕ, List, ◌++◌, ap, ◌∙◌, append_assoc}

pub two : (old between new first second : List ℕ) → between ≡ old ++ first → new ≡ between ++ second → new ≡ old ++ (first ++ second)
two old between new first second one other = other ∙ ap (λ xs. xs ++ second) one ∙ append_assoc old first second

pub ruleset parts = (two)
