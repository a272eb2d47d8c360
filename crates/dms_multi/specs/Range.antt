-- The range of a value (NTCIP 1203, MULTI).
use Rattle.std.specs.Prelude.{ℕ, ◌≤◌, Option, Some, None}

-- a value from low to high, or none
abbrev pub IsWithin : ℕ → ℕ → Option ℕ → Type 0
IsWithin low high None = Unit {0}
IsWithin low high (Some n) = (low ≤ n) × (n ≤ high)
