-- The limits of signs, of their messages and of communities (this profile).
use Rattle.std.specs.Prelude.{ℕ, ◌+◌, ◌&&◌, Bool, List, length, nat_le}

-- the most octets of a text (NTCIP 1203, dmsMessageMultiString)
abbrev pub longest_text : ℕ
longest_text = 512

-- the most octets of an owner (NTCIP 1203, dmsMessageOwner)
abbrev pub longest_owner : ℕ
longest_owner = 127

-- the most columns and rows of a matrix (NTCIP 1203, vmsSignWidthPixels and vmsSignHeightPixels)
abbrev pub widest_matrix : ℕ
widest_matrix = 256

abbrev pub highest_matrix : ℕ
highest_matrix = 64

-- the most rows of a message table, by type of memory
abbrev pub most_permanent_rows : ℕ
most_permanent_rows = 16

abbrev pub most_changeable_rows : ℕ
most_changeable_rows = 64

abbrev pub most_volatile_rows : ℕ
most_volatile_rows = 16

-- the most rows that a central system can write
abbrev pub most_writable_rows : ℕ
most_writable_rows = most_changeable_rows + most_volatile_rows

-- the most octets of a community
abbrev pub longest_community : ℕ
longest_community = 32

abbrev pub has_community_size : List ℕ → Bool
has_community_size community = nat_le 1 (length community) && nat_le (length community) longest_community
