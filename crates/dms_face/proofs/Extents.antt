-- What one more block at the end of a row changes.
use Rattle.std.proofs.Common.{◌≡◌, ℕ, ◌+◌, true, false, List, [], ◌∷◌, ◌++◌, refl, arith, unwrap_or}
use Rattle.dms_face.specs.declared.room.Block.{Block}
use Rattle.dms_face.specs.declared.room.Run.{Run}
use Rattle.dms_face.specs.Layout.{is_blank}
use Rattle.dms_face.specs.Room.{average, extent}
use Rattle.dms_face.specs.Totals.{last_spacing, Sums}

pub last_spacing_push : (blocks : List Block) (block : Block) → last_spacing (blocks ++ block ∷ []) ≡ block.spacing
last_spacing_push [] block = refl
last_spacing_push (a ∷ []) block = refl
last_spacing_push (a ∷ b ∷ rest) block = last_spacing_push (b ∷ rest) block

pub extent_push : (blocks : List Block) (block : Block) → is_blank blocks ≡ false
    → extent (blocks ++ block ∷ []) ≡ extent blocks + unwrap_or block.gap (average (last_spacing blocks) block.spacing) + block.size
extent_push [] block some = cc
extent_push (a ∷ []) block some = refl
extent_push (a ∷ b ∷ rest) block some = let more : extent ((b ∷ rest) ++ block ∷ []) ≡ extent (b ∷ rest) + unwrap_or block.gap (average (last_spacing (b ∷ rest)) block.spacing) + block.size = extent_push (b ∷ rest) block refl in omega arith

-- a later block of a row
pub sums_more : (total : ℕ) (run : Run) (blocks : List Block) (block : Block) → Sums run blocks → run.any ≡ true
    → total ≡ run.size + unwrap_or block.gap (average run.spacing block.spacing) + block.size
    → Sums (record { any = run.any; size = total; spacing = block.spacing }) (blocks ++ block ∷ [])
sums_more total run blocks block sums some is = grind (arith, unwrap_or, extent_push, last_spacing_push)

pub ruleset pushing = (last_spacing_push, extent_push)
