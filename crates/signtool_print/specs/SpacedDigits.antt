-- Digits with separators between pairs of them (this profile).
use Rattle.std.specs.Prelude.{ℕ, ◌+◌, ◌%◌, ◌==◌, ◌&&◌, ◌||◌, Bool, true, not, nat_lt, List, [], ◌∷◌, length}
use Rattle.std.specs.Prelude.{filter, Option, None, if◌then◌else◌}
use Rattle.std.specs.Result.{result_ok}
use Rattle.hex.specs.Hex.{decode_of}

-- a space or a colon
abbrev pub is_separator : ℕ → Bool
is_separator octet = (octet == 32) || (octet == 58)

-- whether a separator may stand after so many digits and before so many octets: between two pairs
abbrev pub is_between : (digits after : ℕ) → Bool
is_between digits after = nat_lt 0 digits && (digits % 2 == 0) && nat_lt 0 after

-- whether each separator stands so, where so many digits stand before these octets
abbrev pub stand_between : ℕ → List ℕ → Bool
stand_between digits [] = true
stand_between digits (octet ∷ more) =
    if is_separator octet then is_between digits (length more) && stand_between digits more
    else stand_between (digits + 1) more

abbrev pub without_separators : List ℕ → List ℕ
without_separators word = filter (λ octet. not (is_separator octet)) word

-- the octets that a word is, with spaces and colons between two pairs of digits and nowhere else
abbrev pub spaced_octets : List ℕ → Option (List ℕ)
spaced_octets word = if stand_between 0 word then result_ok (decode_of (without_separators word)) else None
