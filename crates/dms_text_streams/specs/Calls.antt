-- How many calls of a reader or of a writer failed (this profile).
use Rattle.std.specs.Prelude.{ℕ, ◌+◌, ◌-◌, ◌^◌, ◌==◌, min, List, [], ◌∷◌, Result, Ok, Err, if◌then◌else◌}

-- one failure more; a count stays at its greatest value
abbrev pub one_more : ℕ → ℕ
one_more count = min (count + 1) (2 ^ 64 - 1)

-- after a call of a reader
abbrev pub after_read : {E : Type 0} → ℕ → Result ℕ E → ℕ
after_read count (Ok taken) = count
after_read count (Err fault) = one_more count

-- after a call of a writer: to take none of some octets is to fail
abbrev pub after_write : {E : Type 0} → ℕ → Result ℕ E → List ℕ → ℕ
after_write count (Ok taken) [] = count
after_write count (Ok taken) (octet ∷ octets) = if taken == 0 then one_more count else count
after_write count (Err fault) octets = one_more count
