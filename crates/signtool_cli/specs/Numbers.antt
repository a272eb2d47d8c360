-- The numbers of the command line (this profile): decimal digits alone, leading zeros allowed, and no sign.
use Rattle.std.specs.Prelude.{◌≡◌, ℕ, ◌≤◌, List}
use Rattle.std.specs.Str.Parse.{IsNumeral, digits_value}

-- digits alone spell this number, which is from low to high
abbrev pub IsNumberWithin : ℕ → ℕ → List ℕ → ℕ → Type 0
IsNumberWithin low high word number =
    IsNumeral 10 word × (digits_value 10 word ≡ number) × (low ≤ number) × (number ≤ high)
