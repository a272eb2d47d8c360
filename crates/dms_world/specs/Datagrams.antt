-- Datagrams in one list of octets, each by its place there: where it begins, and where it ends (this profile).
use Rattle.dms_wire_ber.specs.Limits.{longest_datagram}
use Rattle.std.specs.Prelude.{ℕ, ◌≤◌, ◌+◌, Bool, ◌&&◌, nat_le, List, map, slice_range}

-- the octets of each datagram, the oldest first, whether there is room for one more, however long a datagram may be,
-- and for how many octets and places together there is memory
pub record DatagramsModel : Type 0 where
  pub sent : List (List ℕ)
  pub has_room : Bool
  pub memory : ℕ

-- the octets at a place
abbrev pub octets_at : List ℕ → ℕ × ℕ → List ℕ
octets_at octets place = slice_range octets place.0 place.1

abbrev pub datagrams_at : List ℕ → List (ℕ × ℕ) → List (List ℕ)
datagrams_at octets places = map (octets_at octets) places

-- a place is one within so many octets
abbrev pub IsWithin : ℕ → ℕ × ℕ → Type 0
IsWithin count place = (place.0 ≤ place.1) × (place.1 ≤ count)

-- after so many octets and places there is room for the longest datagram and for one more place
abbrev pub is_room : (octets most_octets places most_places : ℕ) → Bool
is_room octets most_octets places most_places =
    nat_le (octets + longest_datagram) most_octets && nat_le (places + 1) most_places
