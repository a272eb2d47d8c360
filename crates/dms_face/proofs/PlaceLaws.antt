-- Where blocks stand, by the rows of the three places.
use Rattle.std.proofs.Common.{◌≡◌, ℕ, Bool, false, not, cond, ◌||◌, List, [], ◌∷◌, nat_lt, nat_le, eqb, refl, arith}
use Rattle.dms_face.specs.declared.justification.Place.{Place}
use Rattle.dms_face.specs.declared.justification.Place.TheVariants.{Start, Halfway, End}
use Rattle.dms_face.specs.declared.room.Block.{Block}
use Rattle.dms_face.specs.Justification.{rank}
use Rattle.dms_face.specs.Layout.{is_blank}
use Rattle.dms_face.specs.Room.{at_place}
use Rattle.dms_face.specs.Fit.{goes_back, is_taken}

-- there is something
abbrev some : List Block → Bool
some blocks = not (is_blank blocks)

-- what stands at a place, with one block more before it
abbrev with_one : Place → ℕ → Block → List Block → List Block
with_one place k block blocks = cond (eqb (rank place) k) (block ∷ blocks) blocks

start_one : (place : Place) (block : Block) (halfway end : List Block) (back : Bool) → back ≡ (some halfway || some end)
    → (nat_lt 0 (rank place) || back) ≡ (some (with_one place 1 block halfway) || some (with_one place 2 block end))
start_one place block halfway end back is = grind arith

-- a block stands after the start where one stands halfway or at the end
pub after_start : (blocks : List Block) → goes_back Start blocks ≡ (some (at_place Halfway blocks) || some (at_place End blocks))
after_start [] = refl
after_start (block ∷ blocks) = start_one block.place block (at_place Halfway blocks) (at_place End blocks) (goes_back Start blocks) (after_start blocks)

halfway_one : (place : Place) (block : Block) (end : List Block) (back : Bool) → back ≡ some end → (nat_lt 1 (rank place) || back) ≡ some (with_one place 2 block end)
halfway_one place block end back is = grind arith

-- a block stands after halfway where one stands at the end
pub after_halfway : (blocks : List Block) → goes_back Halfway blocks ≡ some (at_place End blocks)
after_halfway [] = refl
after_halfway (block ∷ blocks) = halfway_one block.place block (at_place End blocks) (goes_back Halfway blocks) (after_halfway blocks)

end_one : (place : Place) (back : Bool) → back ≡ false → (nat_lt 2 (rank place) || back) ≡ false
end_one place back is = grind arith

-- no block stands after the end
pub after_end : (blocks : List Block) → goes_back End blocks ≡ false
after_end [] = refl
after_end (block ∷ blocks) = end_one block.place (goes_back End blocks) (after_end blocks)

taken_one : (here place : Place) (block : Block) (there : List Block) (taken back : Bool) → taken ≡ (some there || back)
    → (nat_le (rank here) (rank place) || taken) ≡ (some (with_one place (rank here) block there) || (nat_lt (rank here) (rank place) || back))
taken_one here place block there taken back is = grind arith

-- a place is taken where a block stands there or after it
pub taken_here : (place : Place) (blocks : List Block) → is_taken place blocks ≡ (some (at_place place blocks) || goes_back place blocks)
taken_here place [] = refl
taken_here place (block ∷ blocks) = taken_one place block.place block (at_place place blocks) (is_taken place blocks) (goes_back place blocks) (taken_here place blocks)

-- each block stands at one of the three places
pub somewhere : (blocks : List Block) → some blocks ≡ ((some (at_place Start blocks) || some (at_place Halfway blocks)) || some (at_place End blocks))
somewhere blocks = grind arith

pub ruleset places = (after_start, after_halfway, after_end, taken_here, somewhere)
