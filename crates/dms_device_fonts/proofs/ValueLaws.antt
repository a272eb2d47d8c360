-- What the code reads at a number of a name.
use Rattle.std.proofs.Common.{◌≡◌, ℕ, ◌==◌, false, List, [], ◌∷◌, Option, Some, None, refl, sym, ap, ◌∙◌}
use Rattle.dms_wire.specs.Message.{ObjectValue}
use Rattle.dms_face_font.specs.Font.{FontModel}
use Rattle.dms_device_fonts.specs.Tree.{Leaf, tree_value}
use Rattle.dms_device_fonts.specs.Fonts.{font_at, font_row, column_cells, font_object, scalar, scalar_value}
use Rattle.dms_device_fonts.specs.declared.place.FontTable.{FontTable}

pub leaf_none : (o : Option ObjectValue) (numbers : List ℕ) → o ≡ None → tree_value (Leaf o) numbers ≡ None
leaf_none o [] e = e
leaf_none o (n ∷ numbers) e = refl

pub row_reads : (table : FontTable) (fonts : List FontModel) (column index : ℕ) (font : FontModel) (numbers rest : List ℕ) (o : Option ObjectValue) → font_at fonts index ≡ Some font
    → tree_value (column_cells table fonts column) numbers ≡ tree_value (font_row table column index (font_at fonts index)) rest
    → o ≡ tree_value (font_row table column index (Some font)) rest → o ≡ tree_value (column_cells table fonts column) numbers
row_reads table fonts column index font numbers rest o at reads is =
    is ∙ sym (ap (λ f. tree_value (font_row table column index f) rest) at) ∙ sym reads

-- an object that is no table
pub other_object : (fonts : List FontModel) (n : ℕ) → (n == 2) ≡ false → (n == 4) ≡ false → font_object fonts n ≡ scalar (scalar_value fonts n)
other_object fonts n e f = rw (e, f) refl
