-- The slots in which a SET marks the names that it has met (this profile): only proofs go through these.
use Rattle.std.specs.Prelude.{◌≡◌, ℕ, ◌+◌, ◌-◌, ◌*◌, ◌/◌, ◌%◌, ◌==◌, Bool, true, if◌then◌else◌, List, length, nat_lt}
use Rattle.std.specs.List.{slice_index_or}
use Rattle.std.specs.Int.{bit_at}
use Rattle.dms_wire_ber.specs.ObjectIdentifier.{name_octets}
use Rattle.dms_wire.specs.Message.{VarBind}
use Rattle.dms_sign_access.specs.MetNames.{is_among}

-- two slots for each name that can be set, or more
abbrev pub slot_count : ℕ
slot_count = 1024

-- the first pair of factors, from 0 and 0 upwards, by which no two names that can be set share a slot
abbrev pub group_factor : ℕ
group_factor = 108

abbrev pub object_factor : ℕ
object_factor = 305

-- the slot of a name with these content octets: the last three of them say which of those that can be set it is
unfoldable pub content_slot : List ℕ → ℕ
content_slot content =
    if nat_lt (length content) 3 then 0
    else (slice_index_or content (length content - 3) 0 * group_factor
    + slice_index_or content (length content - 2) 0 * object_factor
    + slice_index_or content (length content - 1) 0)
    % slot_count

abbrev pub slot_of : List ℕ → ℕ
slot_of name = content_slot (name_octets name)

-- the bit of a slot is set
abbrev pub is_taken : List ℕ → ℕ → Bool
is_taken words slot = bit_at (slice_index_or words (slot / 64) 0) (slot % 64) == 1

-- each name of these bindings has its slot taken
abbrev pub AreTaken : List ℕ → List VarBind → Type 0
AreTaken words bindings = (name : List ℕ) → is_among name bindings ≡ true → is_taken words (slot_of name) ≡ true
