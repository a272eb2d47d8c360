-- The limits of a datagram and of a name (this profile).
use Rattle.std.specs.Prelude.{ℕ}

-- the most octets of a datagram
abbrev pub longest_datagram : ℕ
longest_datagram = 1472

-- the most sub-identifiers of an object identifier
abbrev pub most_sub_identifiers : ℕ
most_sub_identifiers = 127
