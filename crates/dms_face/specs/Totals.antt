-- What running sums say of the blocks that they were made of, and of a layout (this profile).
use Rattle.std.specs.Prelude.{◌≡◌, ℕ, ◌≤◌, true, not, List, [], ◌∷◌, map, fold, max, length, Option, IfNone}
use Rattle.dms_face.specs.declared.justification.Place.TheVariants.{Start, Halfway, End}
use Rattle.dms_face.specs.declared.multi_fault.MultiFaultCode.{MultiFaultCode}
use Rattle.dms_face.specs.declared.room.Block.{Block}
use Rattle.dms_face.specs.declared.room.Run.{Run}
use Rattle.dms_face.specs.declared.room.Places.{Places}
use Rattle.dms_face.specs.declared.totals.Totals.{Totals}
use Rattle.dms_face.specs.Face.{FaceModel}
use Rattle.dms_face.specs.Layout.{Character, Layout, is_blank, standing}
use Rattle.dms_face.specs.Room.{extent, at_place, character_block, line_block, lines_fit}

abbrev pub last_spacing : List Block → ℕ
last_spacing [] = 0
last_spacing (b ∷ []) = b.spacing
last_spacing (a ∷ b ∷ rest) = last_spacing (b ∷ rest)

pub record Sums (run : Run) (blocks : List Block) : Type 0 where
  pub any : run.any ≡ not (is_blank blocks)
  pub size : run.size ≡ extent blocks
  pub spacing : run.spacing ≡ last_spacing blocks

pub record MatchesBlocks (places : Places) (blocks : List Block) : Type 0 where
  pub start : Sums places.start (at_place Start blocks)
  pub halfway : Sums places.halfway (at_place Halfway blocks)
  pub end : Sums places.end (at_place End blocks)

-- no run takes more room
pub record AreWithin (limit : ℕ) (places : Places) : Type 0 where
  pub start : places.start.size ≤ limit
  pub halfway : places.halfway.size ≤ limit
  pub end : places.end.size ≤ limit

pub record Matches (totals : Totals) (layout : Layout) : Type 0 where
  pub pages : totals.pages ≡ length layout.pages
  pub lines : MatchesBlocks totals.lines (map line_block layout.lines)
  pub characters : MatchesBlocks totals.characters (map character_block layout.characters)
  pub height : totals.height
      ≡ fold max 0 (map (λ (character : Character). character.style.font.height) layout.characters)
  pub spacing : totals.spacing
      ≡ fold max 0 (map (λ (character : Character). character.style.font.line_spacing) layout.characters)
  pub gap : totals.gap ≡ layout.gap
  pub side : totals.side ≡ layout.style.side
  pub part : totals.part ≡ layout.style.part
  pub font : totals.font.now ≡ layout.style.font

-- far from the ends of their types
pub record AreSmall (totals : Totals) : Type 0 where
  pub pages : totals.pages ≤ 5
  pub lines : AreWithin 256 totals.lines
  pub characters : AreWithin 256 totals.characters

-- The sums match the layout, and the lines that stand on its open page have room.
pub record Holds (face : FaceModel) (totals : Totals) (layout : Layout) : Type 0 where
  pub matches : Matches totals layout
  pub room : lines_fit face (standing layout) ≡ true

-- What becomes of running sums at an item: it has this fault, or they match the layout after it.
pub record Takes (face : FaceModel) (old new : Totals) (result : Option MultiFaultCode)
    (fault_at : Layout → Option MultiFaultCode) (after : Layout → Layout) : Type 0 where
  pub fault : (layout : Layout) → Holds face old layout → result ≡ fault_at layout
  pub holds : (layout : Layout) → Holds face old layout → IfNone result (Holds face new (after layout))
  pub small : IfNone result (AreSmall new)
