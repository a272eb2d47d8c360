-- Twelve octets and the activation that they are, in either order.
use Rattle.std.proofs.Common.{◌≡◌, ℕ, ◌/◌, ◌%◌, ◌<◌, List, [], ◌∷◌, length, get_or, arith, rules}
use Rattle.std.specs.Int.Digits.{AllBelowBase}
use Rattle.std.proofs.lemmas.Slice.Eq.{text_from_reads}
use Rattle.dms_codes.specs.declared.codes.Order.{Order}
use Rattle.dms_codes.specs.declared.codes.Activation.{Activation}
use Rattle.dms_codes.specs.Codes.{octets_of_activation, activation_of}

-- ---- octets, the activation that they are, and octets again

twelve_back : (order : Order) (a b c d e f g h i j k l : ℕ) → a < 256 → b < 256 → e < 256 → f < 256 → g < 256 → h < 256
    → octets_of_activation order (activation_of order (a ∷ b ∷ c ∷ d ∷ e ∷ f ∷ g ∷ h ∷ i ∷ j ∷ k ∷ l ∷ []))
    ≡ a ∷ b ∷ c ∷ d ∷ e ∷ f ∷ g ∷ h ∷ i ∷ j ∷ k ∷ l ∷ []
twelve_back order a b c d e f g h i j k l p q r s t u = grind arith

abbrev first_twelve : List ℕ → List ℕ
first_twelve xs =
    get_or xs 0 0 ∷ get_or xs 1 0 ∷ get_or xs 2 0 ∷ get_or xs 3 0 ∷ get_or xs 4 0 ∷ get_or xs 5 0 ∷ get_or xs 6 0 ∷ get_or xs 7 0
    ∷ get_or xs 8 0 ∷ get_or xs 9 0 ∷ get_or xs 10 0 ∷ get_or xs 11 0 ∷ []

all_twelve : (xs : List ℕ) → length xs ≡ 12 → xs ≡ first_twelve xs
all_twelve xs twelve = text_from_reads xs (first_twelve xs) twelve (search rules)

pub octets_back : (order : Order) (octets : List ℕ) → length octets ≡ 12 → AllBelowBase 256 octets
    → octets_of_activation order (activation_of order octets) ≡ octets
octets_back order octets twelve below = grind (arith, all_twelve, get_or, twelve_back)

-- ---- equal octets in one order

-- the type of memory and the checksum
pub record AreAlike (a b : Activation) : Type 0 where
  pub memory : a.id.memory ≡ b.id.memory
  pub crc : a.id.crc ≡ b.id.crc

two_parts : (m n : ℕ) → m / 256 ≡ n / 256 → m % 256 ≡ n % 256 → m ≡ n
two_parts m n high low = omega arith

pub alike : (order : Order) (a b : Activation) → octets_of_activation order a ≡ octets_of_activation order b → AreAlike a b
alike order a b e = grind arith
