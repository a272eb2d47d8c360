-- A row of a picture is lit bit by bit: each step takes one bit away from those that are left.
use Rattle.std.proofs.Common.{◌≡◌, ◌≢◌, ℕ, ◌+◌, ◌-◌, ◌*◌, ◌%◌, ◌^◌, ◌==◌, ◌<◌, ◌≤◌, ◌&&◌, ◌||◌, Bool, true, false, not, sym, ap, ◌∙◌, arith, min, inl, inr}
use Rattle.std.specs.Prelude.{bit_and, nat_le, nat_lt}
use Rattle.std.specs.Int.{w32, bit_at, bit_not, trailing_zeros}
use Rattle.std.proofs.lemmas.Bool.{cases_Bool, cases_lt, and_parts, and_from, or_cases, or_left, or_right, leb-true, le-leb, ltb-true, lt-ltb, eqb-true, eq-eqb, false_from_ne_true, not-true}
use Rattle.std.proofs.lemmas.Nat.{and_mask, and_le_l}
use Rattle.std.proofs.lemmas.Nat.Bits.{bit_at-lt, bit_at_and, bit_at_ones, bit_at_ones_above, bit_at_above, bit_at_clear_same, bit_at_clear_other, bit_at-trailing_zeros}
use Rattle.std.proofs.Math.Bool.{and-true}
use Rattle.dms_face_font.specs.Glyph.{is_bit}
use Rattle.dms_face_pages.proofs.DrawingLaws.{same_test}

-- ---- one bit

no_bit : (n k : ℕ) → bit_at n k ≡ 0 → is_bit n k ≡ false
no_bit n k none = ap (λ d. d == 1) none

pub above : (n k : ℕ) → n < 2 ^ 32 → 32 ≤ k → is_bit n k ≡ false
above n k small high = no_bit n k (bit_at_above n 32 k small high)

and_false : (b : Bool) → (b && false) ≡ false
and_false b = grind arith

-- the lowest bit of a number that is not 0
pub lowest_bit : (left column : ℕ) → 0 < left → left < 2 ^ 32 → column ≡ trailing_zeros w32 left → (column < 32) × (is_bit left column ≡ true)
lowest_bit left column some small is =
    let low = bit_at-trailing_zeros w32 left some small in
    let inside : trailing_zeros w32 left < 32 = low.0 in
    (omega (arith, inside, is), ap (is_bit left) is ∙ ap (λ d. d == 1) low.1)

-- a number without one of its bits
abbrev cleared : ℕ → ℕ → ℕ
cleared row column = bit_and row (bit_not w32 (1 * 2 ^ column % 2 ^ 32))

pub bits_without : (row column k : ℕ) → row < 2 ^ 32 → column < 32 → is_bit (cleared row column) k ≡ (is_bit row k && not (k == column))
bits_without row column k small inside =
    elim (cases_Bool (k == column)) [
      | inl here ↦
          let same : k ≡ column = eqb-true _ _ here in
          ap (is_bit (cleared row column)) same ∙ no_bit (cleared row column) column (bit_at_clear_same w32 row column inside)
          ∙ sym (ap (λ b. is_bit row k && not b) here ∙ and_false (is_bit row k))
      | inr there ↦
          let apart : k ≢ column = λ same. let wrong : true ≡ false = sym (eq-eqb k column same) ∙ there in cc in
          let kept : is_bit (cleared row column) k ≡ is_bit row k =
          elim (cases_lt k 32) [
            | inl below ↦ ap (λ d. d == 1) (bit_at_clear_other w32 row column inside k below apart)
            | inr high ↦ above (cleared row column) k (omega (arith, and_le_l row (bit_not w32 (1 * 2 ^ column % 2 ^ 32)))) high ∙ sym (above row k small high)
          ] in
          kept ∙ sym (ap (λ b. is_bit row k && not b) there ∙ and-true (is_bit row k))
    ]

pub less_without : (row column : ℕ) → column < 32 → is_bit row column ≡ true → cleared row column < row
less_without row column inside on =
    elim (cases_lt (cleared row column) row) [
      | inl less ↦ less
      | inr not_less ↦
          let same : cleared row column ≡ row = omega (arith, and_le_l row (bit_not w32 (1 * 2 ^ column % 2 ^ 32))) in
          let wrong : false ≡ true = sym (ap (λ n. is_bit n column) (sym same) ∙ no_bit (cleared row column) column (bit_at_clear_same w32 row column inside)) ∙ on in
          absurd cc
    ]

-- the lower bits of a number
pub bits_below : (row columns k : ℕ) → is_bit (row % 2 ^ columns) k ≡ (nat_lt k columns && is_bit row k)
bits_below row columns k =
    let masked : bit_at (row % 2 ^ columns) k ≡ min (bit_at row k) (bit_at (2 ^ columns - 1) k) =
    ap (λ n. bit_at n k) (sym (and_mask row columns)) ∙ bit_at_and row (2 ^ columns - 1) k in
    elim (cases_lt k columns) [
      | inl below ↦
          ap (λ d. d == 1) (masked ∙ (let e : min (bit_at row k) (bit_at (2 ^ columns - 1) k) ≡ bit_at row k = omega (arith, bit_at-lt row k, bit_at_ones columns k below) in e))
          ∙ sym (ap (λ b. b && is_bit row k) (lt-ltb k columns below))
      | inr past ↦
          let none : bit_at (row % 2 ^ columns) k ≡ 0 = omega (arith, masked, bit_at_ones_above columns k past) in
          no_bit (row % 2 ^ columns) k none
          ∙ sym (ap (λ b. b && is_bit row k) (let e : nat_lt k columns ≡ false = false_from_ne_true _ (λ on. let low : k < columns = ltb-true _ _ on in absurd (omega arith)) in e))
    ]

-- ---- the bits that are done

-- the cell is that of a bit of the row which is not left
abbrev pub is_done : ℕ → ℕ → ℕ → ℕ → Bool
is_done first row left place = nat_le first place && (is_bit row (place - first) && not (is_bit left (place - first)))

pub all_done : (first row place : ℕ) → is_done first row 0 place ≡ (nat_le first place && is_bit row (place - first))
all_done first row place = grind arith

-- one bit more
pub one_done : (first row left column less place : ℕ) → is_bit left column ≡ true → ((k : ℕ) → is_bit left k ≡ true → is_bit row k ≡ true)
    → ((k : ℕ) → is_bit less k ≡ (is_bit left k && not (k == column)))
    → ((place == first + column) || is_done first row left place) ≡ is_done first row less place
one_done first row left column less place on among is = grind (arith, same_test, or_cases, eqb-true, and_from, le-leb, eq-eqb, and_false, and_parts, not-true, leb-true, cases_Bool, or_left, or_right)

pub still_among : (row left column less : ℕ) → ((k : ℕ) → is_bit left k ≡ true → is_bit row k ≡ true) → ((k : ℕ) → is_bit less k ≡ (is_bit left k && not (k == column)))
    → (k : ℕ) → is_bit less k ≡ true → is_bit row k ≡ true
still_among row left column less among is k on = among k (and_parts _ _ (sym (is k) ∙ on)).0
