-- A number of which some digits have been read.
use Rattle.std.proofs.Common.{◌≡◌, ℕ, ◌+◌, ◌*◌, ◌^◌, ◌<◌, ◌≤◌, true, List, length, get_or, take, arith, add-one, ap, sym, ◌∙◌}
use Rattle.std.specs.Char.{is_digit, digit_value}
use Rattle.std.specs.List.{list_all}
use Rattle.std.specs.Str.Parse.{digits_value}
use Rattle.std.proofs.Math.Nat.{mul-le-mul_left, pow-le-pow_right, pow-suc}
use Rattle.std.proofs.lemmas.List.Folds.{list_all_more}
use Rattle.std.proofs.lemmas.Bool.{and_from, lt-ltb}
use Rattle.std.proofs.lemmas.Int.Digits.{digits_value_more}

-- the first i octets are digits, and value is their number
pub record HasRead (base i value : ℕ) (text : List ℕ) : Type 0 where
  pub number : value ≡ digits_value base (take i text)
  pub digits : list_all (λ c. is_digit c base) (take i text) ≡ true
  pub small : value < 16 ^ i

power_more : (i j : ℕ) → i ≤ j → 16 ^ i ≤ 16 ^ j
power_more i j le = let some : 0 < 16 = omega arith in pow-le-pow_right {n = 16} some {i = i} {j = j} le

-- one more digit
number_more : (i n base digit : ℕ) → n < 16 ^ i → base ≤ 16 → digit < base → n * base + digit < 16 ^ (i + 1)
number_more i n base digit small low below =
    let power : 16 ^ (i + 1) ≡ 16 ^ i * 16 = ap (λ k. 16 ^ k) (add-one i) ∙ pow-suc 16 i in
    omega (arith, power, mul-le-mul_left n low)

pub number_fits : (base i value most digit : ℕ) (text : List ℕ) → HasRead base i value text → base ≤ 16 → digit < base → i < most → most ≤ 15 → value * base + digit < 2 ^ 64
number_fits base i value most digit text read low below more short =
    let le : i + 1 ≤ 15 = omega arith in
    omega (arith, number_more i value base digit read.small low below, power_more (i + 1) 15 le)

pub number_step : (base i value digit octet : ℕ) (text : List ℕ) → HasRead base i value text → i < length text → base ≤ 16 → octet ≡ get_or text i 0 → digit_value octet < base → digit ≡ digit_value octet → HasRead base (i + 1) (value * base + digit) text
number_step base i value digit octet text read inside low same below is =
    let here : digit_value octet ≡ digit_value (get_or text i 0) = ap digit_value same in
    let digit_here : digit_value (get_or text i 0) < base = omega (arith, here) in
    record {
      number = ap (λ v. v * base + digit) read.number ∙ ap (λ d. digits_value base (take i text) * base + d) (is ∙ here) ∙ sym (digits_value_more base text i inside);
      digits = list_all_more (λ c. is_digit c base) text i 0 inside ∙ and_from _ _ read.digits (lt-ltb _ _ digit_here);
      small = number_more i value base digit read.small low (omega arith);
    }

pub number_below : (base i value most : ℕ) (text : List ℕ) → HasRead base i value text → i ≤ most → value < 16 ^ most
number_below base i value most text read le = omega (arith, read.small, power_more i most le)
