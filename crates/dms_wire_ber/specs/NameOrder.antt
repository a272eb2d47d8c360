-- The order of object identifiers (RFC 1157, 4.1.3).
use Rattle.std.specs.Prelude.{ℕ, Bool, List}
use Rattle.std.specs.Cmp.Lexicographic.{slice_cmp}
use Rattle.std.specs.Ordering.{nat_cmp, is_lt}
use Rattle.std.specs.declared.cmp.Ordering.{Ordering}

-- lexicographic: the first two numbers that differ decide, and a name comes before those that begin with it
abbrev pub numbers_cmp : List ℕ → List ℕ → Ordering
numbers_cmp = slice_cmp nat_cmp

-- the first name comes before the second one
abbrev pub is_before : List ℕ → List ℕ → Bool
is_before first second = is_lt (numbers_cmp first second)
