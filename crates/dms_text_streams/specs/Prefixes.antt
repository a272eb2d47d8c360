-- What a writer holds after some of the octets were written to it (this profile).
use Rattle.std.specs.Prelude.{◌≡◌, ℕ, List, ◌++◌, Option}
use Rattle.std.specs.Io.KnownBytes.{Appends}

-- a prefix of these octets was written, perhaps none of them
abbrev pub AppendsPrefix : Option (List ℕ) → Option (List ℕ) → List ℕ → Type 0
AppendsPrefix old new octets = (prefix : List ℕ) × (rest : List ℕ) × (octets ≡ prefix ++ rest) × Appends old new prefix
