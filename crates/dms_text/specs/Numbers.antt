-- The numbers that words spell (this profile).
use Rattle.std.specs.Prelude.{◌≡◌, ℕ, ◌≤◌, List, length}
use Rattle.std.specs.Str.Parse.{IsNumeral, digits_value}

-- one to `most` digits of the base, leading zeros allowed, and the number that they are
pub record SpellsNumber (base most : ℕ) (number : ℕ) (word : List ℕ) : Type 0 where
  pub numeral : IsNumeral base word
  pub few : length word ≤ most
  pub value : number ≡ digits_value base word

-- a number of one to five decimal digits, from low to high
pub record SpellsDecimal (low high : ℕ) (number : ℕ) (word : List ℕ) : Type 0 where
  pub spelled : SpellsNumber 10 5 number word
  pub least : low ≤ number
  pub greatest : number ≤ high

-- a number of just four hexadecimal digits
pub record SpellsVersion (number : ℕ) (word : List ℕ) : Type 0 where
  pub spelled : SpellsNumber 16 4 number word
  pub four : length word ≡ 4
