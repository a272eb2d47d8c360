-- Whether there is room at three places, decided by sums alone.
use Rattle.std.proofs.Common.{◌≡◌, ℕ, ◌+◌, ◌-◌, ◌/◌, ◌≤◌, ◌<◌, Bool, true, false, ◌&&◌, [], ◌∷◌, nat_le, arith}
use Rattle.std.proofs.lemmas.Bool.Decides.{nat_tests}
use Rattle.dms_face.specs.declared.justification.Place.TheVariants.{Start, Halfway, End}
use Rattle.dms_face.specs.Room.{span, have_room}

-- the sums
abbrev sums_fit : ℕ → ℕ → ℕ → ℕ → Bool
sums_fit whole start halfway end = nat_le start ((whole - halfway) / 2) && nat_le ((whole - halfway) / 2 + halfway + end) whole

-- with nothing halfway
pub room_beside_nothing : (whole start end : ℕ) → nat_le (start + end) whole ≡ have_room whole (span whole Start start ∷ span whole Halfway 0 ∷ span whole End end ∷ [])
room_beside_nothing whole start end = grind (arith, nat_tests)

-- with more halfway than there is
pub no_room_halfway : (whole start halfway end : ℕ) → whole < halfway → false ≡ have_room whole (span whole Start start ∷ span whole Halfway halfway ∷ span whole End end ∷ [])
no_room_halfway whole start halfway end more = grind (arith, nat_tests)

pub room_around : (whole start halfway end : ℕ) → 0 < halfway → halfway ≤ whole
    → sums_fit whole start halfway end ≡ have_room whole (span whole Start start ∷ span whole Halfway halfway ∷ span whole End end ∷ [])
room_around whole start halfway end more less = grind (arith, nat_tests)

pub ruleset room = (room_beside_nothing, no_room_halfway, room_around)

-- what is beside nothing halfway
pub beside_nothing : (whole start end : ℕ) → start + end ≤ whole → have_room whole (span whole Start start ∷ span whole Halfway 0 ∷ span whole End end ∷ []) ≡ true
beside_nothing whole start end less = grind (arith, nat_tests)

-- what ends before the halfway begins, and begins where it ends
pub around : (whole start halfway end : ℕ) → halfway ≤ whole → start ≤ (whole - halfway) / 2 → (whole - halfway) / 2 + halfway + end ≤ whole
    → have_room whole (span whole Start start ∷ span whole Halfway halfway ∷ span whole End end ∷ []) ≡ true
around whole start halfway end inside before after = grind (arith, nat_tests)

pub ruleset limits = (beside_nothing, around)
