-- The table of the digits of octets.
use Rattle.std.proofs.Common.{◌≡◌, ℕ, zero, suc, ◌-◌, ◌<◌, Bool, true, ◌&&◌, T, eqb, get_or, inl, inr, arith, eq-zero-or-pos, eqb→eq, List, [], ◌∷◌, refl, ap, ◌∙◌}
use Rattle.std.specs.Prelude.{slice_index, ◌/◌, ◌%◌}
use lib.Ieee.Fits.{and_l, and_r}
use Rattle.hex.specs.Hex.{encode_with, encode_lower, lower_digits}
use Rattle.dms_text_filling.specs.declared.digit_table.TheConstants.{PAIRS}

-- the pairs of the octets below a number are theirs
abbrev are_pairs : ℕ → Bool
are_pairs zero = true
are_pairs (suc n) = (eqb (get_or PAIRS n 0 % 256) (slice_index lower_digits (n / 16)) && eqb (get_or PAIRS n 0 / 256) (slice_index lower_digits (n % 16))) && are_pairs n

below : (n octet : ℕ) → T (are_pairs n) → octet < n
    → (get_or PAIRS octet 0 % 256 ≡ slice_index lower_digits (octet / 16)) × (get_or PAIRS octet 0 / 256 ≡ slice_index lower_digits (octet % 16))
below zero octet t h = absurd (omega arith)
below (suc n) octet t h =
    elim (eq-zero-or-pos (n - octet)) [
      | inl z ↦ let e : octet ≡ n = omega arith in let a = and_l _ (are_pairs n) t in rw e (eqb→eq _ _ (and_l _ _ a), eqb→eq _ _ (and_r _ _ a))
      | inr g ↦ below n octet (and_r _ (are_pairs n) t) (omega arith)
    ]

pub first_at : (octet from : ℕ) → octet < 256 → from ≡ octet → get_or PAIRS from 0 % 256 ≡ slice_index lower_digits (octet / 16)
first_at octet from h is = ap (λ n. get_or PAIRS n 0 % 256) is ∙ (below 256 octet tt h).0

pub second_at : (octet from : ℕ) → octet < 256 → from ≡ octet → get_or PAIRS from 0 / 256 ≡ slice_index lower_digits (octet % 16)
second_at octet from h is = ap (λ n. get_or PAIRS n 0 / 256) is ∙ (below 256 octet tt h).1

-- one octet more has two digits more
pub digits_of_one_more : (octet high low : ℕ) (octets digits : List ℕ) → high ≡ slice_index lower_digits (octet / 16)
    → low ≡ slice_index lower_digits (octet % 16) → digits ≡ encode_lower octets → high ∷ low ∷ digits ≡ encode_lower (octet ∷ octets)
unfolding encode_with
digits_of_one_more octet high low octets digits first second others = cc

pub no_digits_of_none : [] ≡ encode_lower []
unfolding encode_with
no_digits_of_none = refl
