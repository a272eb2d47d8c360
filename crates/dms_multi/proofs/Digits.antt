-- The hexadecimal digits of a number of 16 bits.
use Rattle.std.proofs.Common.{◌≡◌, ℕ, suc, ◌/◌, ◌%◌, ◌<◌, ◌≤◌, ◌^◌, Bool, true, List, [], ◌∷◌, drop, refl, sym, ap, ◌∙◌, arith}
use Rattle.std.specs.Fmt.{digits, digits_onto, digit_glyph}
use Rattle.std.proofs.lemmas.Bool.{lt-ltb, le-ltb, cases_lt}
use Rattle.dms_multi.specs.Canonical.{hexadecimal_text, leading_zeros}

-- one more digit, and the first one
onto_more : (k n : ℕ) (upper : Bool) (more : List ℕ) → 16 ≤ n → digits_onto (suc k) 16 upper n more ≡ digits_onto k 16 upper (n / 16) (digit_glyph upper (n % 16) ∷ more)
onto_more k n upper more large = grind arith

onto_last : (k n : ℕ) (upper : Bool) (more : List ℕ) → n < 16 → digits_onto (suc k) 16 upper n more ≡ digit_glyph upper n ∷ more
onto_last k n upper more small = grind arith

one_digit : (n : ℕ) → n < 16 → digits 16 true n ≡ drop (leading_zeros n) (hexadecimal_text true n)
unfolding digits
one_digit n small = grind arith

two_digits : (n : ℕ) → 16 ≤ n → n < 256 → digits 16 true n ≡ drop (leading_zeros n) (hexadecimal_text true n)
unfolding digits
two_digits n large small = grind arith

three_digits : (n : ℕ) → 256 ≤ n → n < 4096 → digits 16 true n ≡ drop (leading_zeros n) (hexadecimal_text true n)
unfolding digits
three_digits n large small =
    let first : leading_zeros n ≡ 1 = rw (le-ltb n 16 (omega arith), le-ltb n 256 large, lt-ltb n 4096 small) refl in
    let second : 16 ≤ n / 16 = omega arith in
    let top : n / 16 / 16 < 16 = omega arith in
    let high : n / 16 / 16 ≡ n / 256 % 16 = omega arith in
    onto_more 63 n true [] (omega arith) ∙ onto_more 62 (n / 16) true _ second ∙ onto_last 61 (n / 16 / 16) true _ top
    ∙ ap (λ k. digit_glyph true k ∷ digit_glyph true (n / 16 % 16) ∷ digit_glyph true (n % 16) ∷ []) high ∙ ap (λ k. drop k (hexadecimal_text true n)) (sym first)

all_digits : (n : ℕ) → 4096 ≤ n → n < 2 ^ 16 → digits 16 true n ≡ drop (leading_zeros n) (hexadecimal_text true n)
unfolding digits
all_digits n large small =
    let first : leading_zeros n ≡ 0 = rw (le-ltb n 16 (omega arith), le-ltb n 256 (omega arith), le-ltb n 4096 large) refl in
    let second : 16 ≤ n / 16 = omega arith in
    let third : 16 ≤ n / 16 / 16 = omega arith in
    let top : n / 16 / 16 / 16 < 16 = omega arith in
    let high : n / 16 / 16 / 16 ≡ n / 4096 = omega arith in
    let next : n / 16 / 16 % 16 ≡ n / 256 % 16 = omega arith in
    onto_more 63 n true [] (omega arith) ∙ onto_more 62 (n / 16) true _ second ∙ onto_more 61 (n / 16 / 16) true _ third ∙ onto_last 60 (n / 16 / 16 / 16) true _ top
    ∙ ap (λ k. digit_glyph true k ∷ digit_glyph true (n / 16 / 16 % 16) ∷ digit_glyph true (n / 16 % 16) ∷ digit_glyph true (n % 16) ∷ []) high
    ∙ ap (λ k. digit_glyph true (n / 4096) ∷ digit_glyph true k ∷ digit_glyph true (n / 16 % 16) ∷ digit_glyph true (n % 16) ∷ []) next
    ∙ ap (λ k. drop k (hexadecimal_text true n)) (sym first)

-- a number's digits are its four without the leading zeros
pub digits_dropped : (n : ℕ) → n < 2 ^ 16 → digits 16 true n ≡ drop (leading_zeros n) (hexadecimal_text true n)
digits_dropped n small = grind (arith, cases_lt, one_digit, two_digits, three_digits, all_digits)
