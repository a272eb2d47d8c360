-- What stands in a span of numbers, one number at a time.
use Rattle.std.proofs.Common.{◌≡◌, ℕ, zero, suc, ◌+◌, ◌-◌, ◌<◌, ◌≤◌, Option, Some, None, inl, inr, refl, ap, subst, ◌∙◌, arith}
use Rattle.std.specs.Prelude.{option_map}
use Rattle.std.proofs.lemmas.Bool.{cases_lt}
use Rattle.dms_wire.specs.Message.{VarBind}
use Rattle.dms_device_fonts.specs.Tree.{first_from, or_first, below}

-- nothing at the first number
pub none_here : (first : ℕ → Option VarBind) (n count : ℕ) → first n ≡ None → first_from first n (suc count) ≡ first_from first (n + 1) count
none_here first n count e = ap (λ o. or_first (option_map (below n) o) (first_from first (n + 1) count)) e

-- something there
pub some_here : (first : ℕ → Option VarBind) (n count : ℕ) (b : VarBind) → first n ≡ Some b → first_from first n (suc count) ≡ Some (below n b)
some_here first n count b e = ap (λ o. or_first (option_map (below n) o) (first_from first (n + 1) count)) e

-- the same, where a count is written as it is counted down
pub none_at : (first : ℕ → Option VarBind) (n end : ℕ) → n < end → first n ≡ None → first_from first n (end - n) ≡ first_from first (n + 1) (end - (n + 1))
none_at first n end below_end e =
    ap (first_from first n) (let left : end - n ≡ suc (end - (n + 1)) = omega arith in left) ∙ none_here first n (end - (n + 1)) e

pub some_at : (first : ℕ → Option VarBind) (n end : ℕ) (b : VarBind) → n < end → first n ≡ Some b → first_from first n (end - n) ≡ Some (below n b)
some_at first n end b below_end e =
    ap (first_from first n) (let left : end - n ≡ suc (end - (n + 1)) = omega arith in left) ∙ some_here first n (end - (n + 1)) b e

pub none_left : (first : ℕ → Option VarBind) (n end : ℕ) → end ≤ n → first_from first n (end - n) ≡ None
none_left first n end past = ap (first_from first n) (let left : end - n ≡ 0 = omega arith in left)

-- what is first in a span, where it is known
pub first_is : (first : ℕ → Option VarBind) (n count m : ℕ) (b : VarBind) → n ≤ m → m < n + count → ((k : ℕ) → n ≤ k → k < m → first k ≡ None) → first m ≡ Some b
    → first_from first n count ≡ Some (below m b)
first_is first n zero m b low high none e = absurd (omega arith)
first_is first n (suc count) m b low high none e =
    elim (cases_lt n m) [
      | inl before ↦ none_here first n count (none n (omega arith) before) ∙ first_is first (n + 1) count m b (omega arith) (omega arith) (λ k over under. none k (omega arith) under) e
      | inr there ↦
          let same : n ≡ m = omega arith in
          subst (λ k. first_from first n (suc count) ≡ Some (below k b)) same (some_here first n count b (ap first same ∙ e))
    ]

pub none_is : (first : ℕ → Option VarBind) (n count : ℕ) → ((k : ℕ) → n ≤ k → k < n + count → first k ≡ None) → first_from first n count ≡ None
none_is first n zero none = refl
none_is first n (suc count) none = none_here first n count (none n (omega arith) (omega arith)) ∙ none_is first (n + 1) count (λ k over under. none k (omega arith) (omega arith))
