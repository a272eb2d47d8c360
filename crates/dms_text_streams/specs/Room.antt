-- How many octets a writer surely takes yet, where that is known (this profile).
use Rattle.std.specs.Prelude.{◌≡◌, ℕ, ◌+◌, ◌≤◌, List, length, Option, Some, None, Result, Ok, IsOk}

-- there is room for so many octets; of a writer whose room is not known, this is never said
abbrev pub HasRoom : Option ℕ → ℕ → Type 0
HasRoom None count = ⊥
HasRoom (Some room) count = count ≤ room

-- where there is room for these octets and for so many more, a call takes all of them, and room for so many more is
-- left
abbrev pub TakesWithinRoom : {E : Type 0} → Option ℕ → Option ℕ → Result ℕ E → List ℕ → Type 0
TakesWithinRoom old new result octets =
    (more : ℕ) → HasRoom old (length octets + more) → (result ≡ Ok (length octets)) × HasRoom new more

-- so do all calls together that write them
abbrev pub IsWrittenWithinRoom : {A E : Type 0} → Option ℕ → Option ℕ → Result A E → List ℕ → Type 0
IsWrittenWithinRoom old new result octets = (more : ℕ) → HasRoom old (length octets + more)
    → IsOk result × HasRoom new more
