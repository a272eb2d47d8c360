-- A text of which eight octets at a time are passed over.
use Rattle.std.proofs.Common.{◌≡◌, ℕ, ◌+◌, ◌-◌, ◌<◌, ◌≤◌, ◌==◌, false, cond, List, length, get_or, take, drop, Some, sym, ap, ◌∙◌, arith, inl, inr, length-drop}
use Rattle.std.specs.List.{position_from}
use Rattle.std.proofs.lemmas.Bool.{cases_Bool, eqb-true}
use Rattle.std.proofs.lemmas.List.{drop_more, take_rest}

-- an octet that is no newline does not pass
no_newline : (octet : ℕ) → (octet ≡ 10 → ⊥) → (octet == 10) ≡ false
no_newline octet other = elim (cases_Bool (octet == 10)) [
  | inl newline ↦ absurd (other (eqb-true octet 10 newline))
  | inr not ↦ not
]

passed : (i k : ℕ) (xs : List ℕ) → k < length xs → (get_or xs k 0 ≡ 10 → ⊥)
    → position_from (λ (octet : ℕ). octet == 10) (i + k) (drop k xs) ≡ position_from (λ (octet : ℕ). octet == 10) (i + (k + 1)) (drop (k + 1) xs)
passed i k xs within fails =
    ap (position_from (λ (octet : ℕ). octet == 10) (i + k)) (drop_more xs k 0 within)
    ∙ ap (λ b. cond b (Some (i + k)) (position_from (λ (octet : ℕ). octet == 10) (i + k + 1) (drop (k + 1) xs))) (no_newline (get_or xs k 0) fails)
    ∙ ap (λ j. position_from (λ (octet : ℕ). octet == 10) j (drop (k + 1) xs)) (omega arith)

-- none of the first eight octets is a newline
pub passed_eight : (i : ℕ) (xs : List ℕ) → 8 ≤ length xs
    → (get_or xs 0 0 ≡ 10 → ⊥) → (get_or xs 1 0 ≡ 10 → ⊥) → (get_or xs 2 0 ≡ 10 → ⊥) → (get_or xs 3 0 ≡ 10 → ⊥)
    → (get_or xs 4 0 ≡ 10 → ⊥) → (get_or xs 5 0 ≡ 10 → ⊥) → (get_or xs 6 0 ≡ 10 → ⊥) → (get_or xs 7 0 ≡ 10 → ⊥)
    → position_from (λ (octet : ℕ). octet == 10) i xs ≡ position_from (λ (octet : ℕ). octet == 10) (i + 8) (take (length xs - 8) (drop 8 xs))
passed_eight i xs many first second third fourth fifth sixth seventh eighth =
    ap (λ j. position_from (λ (octet : ℕ). octet == 10) j xs) (omega arith)
    ∙ passed i 0 xs (omega arith) first
    ∙ passed i 1 xs (omega arith) second
    ∙ passed i 2 xs (omega arith) third
    ∙ passed i 3 xs (omega arith) fourth
    ∙ passed i 4 xs (omega arith) fifth
    ∙ passed i 5 xs (omega arith) sixth
    ∙ passed i 6 xs (omega arith) seventh
    ∙ passed i 7 xs (omega arith) eighth
    ∙ ap (position_from (λ (octet : ℕ). octet == 10) (i + 8)) (sym (take_rest xs 8))

-- eight octets fewer are left
pub eight_fewer : (xs : List ℕ) → 8 ≤ length xs → length (take (length xs - 8) (drop 8 xs)) + 8 ≡ length xs
eight_fewer xs many = let rest : length (take (length xs - 8) (drop 8 xs)) ≡ length (drop 8 xs) = ap length (take_rest xs 8) in omega (arith, rest, length-drop 8 xs)
