-- What the code's steps and places are.
use Rattle.std.specs.Prelude.{ℕ, Bool, ◌+◌, ◌-◌, ◌<◌, ◌≤◌, ◌&&◌, nat_le, nat_lt, if◌then◌else◌}
use Rattle.std.specs.Prelude.{List, [], ◌∷◌, ◌++◌, length, Option, Some, None, option_map}
use Rattle.dms_wire.specs.Message.{ObjectValue, VarBind}
use Rattle.dms_face_font.specs.Glyph.{GlyphModel}
use Rattle.dms_face_font.specs.Font.{FontModel}
use Rattle.dms_device_fonts.specs.Tree.{Tree, tree_value, tree_first, tree_after, first_from, or_first, below}
use Rattle.dms_device_fonts.specs.Fonts.{font_cell, character_cell, scalar_value}
use Rattle.dms_device_fonts.specs.declared.place.End.{End}
use Rattle.dms_device_fonts.specs.declared.place.End.TheVariants.{OfFont, OfCharacter}
use Rattle.dms_device_fonts.specs.declared.place.FontRow.{FontRow}
use Rattle.dms_device_fonts.specs.declared.place.FontCell.{FontCell}
use Rattle.dms_device_fonts.specs.declared.place.FontPlace.{FontPlace}
use Rattle.dms_device_fonts.specs.declared.place.FontPlace.TheVariants.{OfScalar, OfCell}
use Rattle.dms_device_fonts.specs.declared.steps.Below.{Below}
use Rattle.dms_device_fonts.specs.declared.steps.SpanPlace.{SpanPlace}
use Rattle.dms_device_fonts.specs.declared.steps.NodeSide.{NodeSide}
use Rattle.dms_device_fonts.specs.declared.steps.NodeSide.TheVariants.{Before, Under, After}
use Rattle.dms_device_fonts.specs.declared.steps.SpanPlace.TheVariants.{First, Inside, Past}

-- what the numbers read, whose first is one of a span
abbrev pub stepped : (ℕ → Tree) → Option Below → Option ObjectValue
stepped at None = None
stepped at (Some step) = tree_value (at step.number) step.rest

-- a value, where there are no more numbers
abbrev pub if_over : Option ObjectValue → Bool → Option ObjectValue
if_over value over = if over then value else None

-- what the numbers read
abbrev pub read_by : (ℕ → Tree) → SpanPlace → Option ObjectValue
read_by at First = None
read_by at (Inside step) = tree_value (at step.number) step.rest
read_by at Past = None

-- what comes after them
abbrev pub turned : (least count : ℕ) → (ℕ → Tree) → SpanPlace → Option VarBind
turned least count at First = first_from (λ n. tree_first (at n)) least count
turned least count at (Inside step) =
    or_first (option_map (below step.number) (tree_after (at step.number) step.rest))
    (first_from (λ n. tree_first (at n)) (step.number + 1) (least + count - (step.number + 1)))
turned least count at Past = None

-- the least number of characters from one on, unless what was found is less
abbrev pub lowest : (least found : ℕ) → List GlyphModel → ℕ
lowest least found [] = found
lowest least found (glyph ∷ glyphs) =
    lowest least
    (if nat_le least glyph.character && nat_lt glyph.character found then glyph.character else found) glyphs

abbrev pub character_binding : (column : ℕ) → GlyphModel → VarBind
character_binding column glyph = record { name = glyph.character ∷ []; value = character_cell glyph column }

-- the instance that a font has in a column, below its index
abbrev pub end_binding : (column index : ℕ) → FontModel → End → VarBind
end_binding column index font OfFont = record { name = []; value = font_cell index font column }
end_binding column index font (OfCharacter glyph) = character_binding column glyph.now

abbrev pub row_binding : (column : ℕ) → FontRow → VarBind
row_binding column row = below row.index (end_binding column row.index row.font.now row.end)

abbrev pub cell_binding : FontCell → VarBind
cell_binding cell = below cell.column (row_binding cell.column cell.row)

-- the instance at a place, below the fonts' node
abbrev pub place_binding : List FontModel → FontPlace → VarBind
place_binding fonts (OfScalar n) = record { name = n ∷ 0 ∷ []; value = scalar_value fonts n }
place_binding fonts (OfCell n cell) = below n (below 1 (cell_binding cell))

-- the number is one of the span's
abbrev pub IsInside : (least count : ℕ) → SpanPlace → Type 0
IsInside least count First = Unit {0}
IsInside least count (Inside step) = (least ≤ step.number) × (step.number < least + count)
IsInside least count Past = Unit {0}

-- a binding below a name
abbrev pub placed : List ℕ → VarBind → VarBind
placed node b = record { name = node ++ b.name; value = b.value }

-- what a tree below a name reads
abbrev pub side_value : Tree → NodeSide → Option ObjectValue
side_value tree Before = None
side_value tree (Under numbers) = tree_value tree numbers
side_value tree After = None

-- what comes next in it
abbrev pub side_after : List ℕ → Tree → NodeSide → Option VarBind
side_after node tree Before = option_map (placed node) (tree_first tree)
side_after node tree (Under numbers) = option_map (placed node) (tree_after tree numbers)
side_after node tree After = None

-- ---- places that there are

pub record IsCell (fonts : List FontModel) (cell : FontCell) : Type 0 where
  pub column : cell.column ≤ 8
  pub index : cell.row.index ≤ length fonts

abbrev pub IsPlace : List FontModel → FontPlace → Type 0
IsPlace fonts (OfScalar n) = n ≤ 5
IsPlace fonts (OfCell n cell) = (n ≤ 5) × IsCell fonts cell
