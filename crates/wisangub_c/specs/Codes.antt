-- A checksum, where beacon and pixel service are on or off, as it is given to C (this profile).
use Rattle.std.specs.Prelude.{ℕ, ◌&&◌, if◌then◌else◌, nat_lt, List, Bool}
use Rattle.dms_codes.specs.Checksum.{message_checksum}
use Rattle.wisangub_c.specs.Answers.{done, out_of_range}

abbrev pub are_switches : ℕ → ℕ → Bool
are_switches beacon pixel = nat_lt beacon 2 && nat_lt pixel 2

abbrev pub checksum_answer : ℕ → ℕ → ℕ
checksum_answer beacon pixel = if are_switches beacon pixel then done else out_of_range

abbrev pub checksum_after : List ℕ → ℕ → ℕ → ℕ → ℕ
checksum_after text beacon pixel old =
    if are_switches beacon pixel then message_checksum text beacon pixel else old
