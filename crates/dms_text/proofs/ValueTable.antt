-- The table of the digits' values, and tests of the digits of pairs.
use Rattle.std.proofs.Common.{◌≡◌, ℕ, zero, suc, ◌+◌, ◌-◌, ◌*◌, ◌<◌, ◌≤◌, ◌&&◌, Bool, true, T, eqb, get_or, inl, inr, arith, eq-zero-or-pos, eqb→eq, List, length, take, slice_index, sym, ap, ◌∙◌}
use Rattle.std.specs.List.{list_all}
use Rattle.std.proofs.lemmas.Bool.{and_parts, and_from}
use Rattle.std.proofs.lemmas.Bool.Decides.{nat_tests}
use Rattle.std.proofs.lemmas.List.Folds.{list_all_more}
use lib.Ieee.Fits.{and_l, and_r}
use Rattle.dms_text.specs.Reading.{digit_value}
use Rattle.dms_text.specs.declared.digit_values.TheConstants.{VALUES}

-- ---- the table

-- the values of the octets below a number are theirs
abbrev are_values : ℕ → Bool
are_values zero = true
are_values (suc n) = eqb (get_or VALUES n 0) (digit_value n) && are_values n

below : (n octet : ℕ) → T (are_values n) → octet < n → get_or VALUES octet 0 ≡ digit_value octet
below zero octet t h = absurd (omega arith)
below (suc n) octet t h =
    elim (eq-zero-or-pos (n - octet)) [
      | inl z ↦ let e : octet ≡ n = omega arith in rw e (eqb→eq _ _ (and_l _ (are_values n) t))
      | inr g ↦ below n octet (and_r _ (are_values n) t) (omega arith)
    ]

pub value_at : (octet from : ℕ) → octet < 256 → from ≡ octet → get_or VALUES from 0 ≡ digit_value octet
value_at octet from h is = ap (λ n. get_or VALUES n 0) is ∙ below 256 octet tt h

value_most : (octet : ℕ) → octet < 256 → digit_value octet ≤ 8192
value_most octet h = grind (arith, nat_tests)

pub most_at : (octet from : ℕ) → octet < 256 → from ≡ octet → get_or VALUES from 0 ≤ 8192
most_at octet from h is = omega (arith, value_at octet from h is, value_most octet h)

-- ---- pairs

-- where a pair passes a test of digits, and those before it do, all up to it do
pub pairs_more : (test : ℕ → Bool) (word : List ℕ) (index : ℕ) → 2 * index + 1 < length word
    → true ≡ (test (slice_index word (2 * index)) && test (slice_index word (2 * index + 1)))
    → list_all test (take (2 * index) word) ≡ true → list_all test (take (2 * (index + 1)) word) ≡ true
pairs_more test word index fits pair all =
    let both = and_parts _ _ (sym pair) in
    let one = list_all_more test word (2 * index) 0 (omega arith) ∙ and_from _ _ all both.0 in
    let two = list_all_more test word (2 * index + 1) 0 fits ∙ and_from _ _ one both.1 in
    let at : 2 * (index + 1) ≡ 2 * index + 1 + 1 = omega arith in
    ap (λ n. list_all test (take n word)) at ∙ two
