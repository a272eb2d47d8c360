-- The fonts of a face as objects (NTCIP 1203 v03, dms.3), which are only read; (own) where this profile chose.
use Rattle.std.specs.Prelude.{ℕ, pos, ◌-◌, ◌==◌, if◌then◌else◌, List, [], ◌∷◌, length}
use Rattle.std.specs.Prelude.{slice_get, Option, Some, None, option_map}
use Rattle.dms_wire.specs.Message.{ObjectValue, VarBind, integer, octet_string}
use Rattle.dms_mib.specs.Names.{below_dms}
use Rattle.dms_face_font.specs.Glyph.{GlyphModel, bitmap_octets}
use Rattle.dms_face_font.specs.Font.{FontModel, glyph_of}
use Rattle.dms_face.specs.Face.{FaceModel}
use Rattle.dms_device_fonts.specs.Tree.{Tree, Leaf, Span, under, tree_value, tree_after}
use Rattle.dms_device_fonts.specs.declared.place.FontTable.{FontTable}
use Rattle.dms_device_fonts.specs.declared.place.FontTable.TheVariants.{Fonts, Characters}

abbrev pub number : ℕ → ObjectValue
number n = integer (pos n)

-- The columns of fontTable: fontIndex; fontNumber; fontName, which is empty (own); fontHeight; fontCharSpacing;
-- fontLineSpacing; fontVersionID; fontStatus, which is permanent, 6 (own).
abbrev pub font_cell : (index : ℕ) → FontModel → (column : ℕ) → ObjectValue
font_cell index font column =
    if column == 1 then number index
    else if column == 2 then number font.number
    else if column == 3 then octet_string []
    else if column == 4 then number font.height
    else if column == 5 then number font.character_spacing
    else if column == 6 then number font.line_spacing
    else if column == 7 then number font.version
    else number 6

-- the columns of characterTable: characterNumber, characterWidth, characterBitmap
abbrev pub character_cell : GlyphModel → (column : ℕ) → ObjectValue
character_cell glyph column =
    if column == 1 then number glyph.character
    else if column == 2 then number glyph.width
    else octet_string (bitmap_octets glyph)

-- the font of an index: the first has 1
abbrev pub font_at : List FontModel → ℕ → Option FontModel
font_at fonts index = slice_get fonts (index - 1)

abbrev pub character_leaf : FontModel → (column n : ℕ) → Tree
character_leaf font column n = Leaf (option_map (λ (g : GlyphModel). character_cell g column) (glyph_of font n))

-- what a font has in a column: fontTable has a row for each font, and characterTable one for each of its characters, by
-- the character's number
abbrev pub font_row : FontTable → (column index : ℕ) → Option FontModel → Tree
font_row Fonts column index font = Leaf (option_map (λ (f : FontModel). font_cell index f column) font)
font_row Characters column index None = Leaf None
font_row Characters column index (Some font) = Span 1 65535 (character_leaf font column)

abbrev pub column_count : FontTable → ℕ
column_count Fonts = 8
column_count Characters = 3

abbrev pub column_cells : FontTable → List FontModel → ℕ → Tree
column_cells table fonts column = Span 1 (length fonts) (λ index. font_row table column index (font_at fonts index))

-- a table has an entry, 1
abbrev pub table_cells : FontTable → List FontModel → Tree
table_cells table fonts = Span 1 1 (λ _. Span 1 (column_count table) (column_cells table fonts))

-- an object has the instance 0
abbrev pub scalar : ObjectValue → Tree
scalar value = Span 0 1 (λ _. Leaf (Some value))

-- numFonts; maxFontCharacters and fontMaxCharacterSize, the most that a font and a character's bitmap have here
abbrev pub scalar_value : List FontModel → ℕ → ObjectValue
scalar_value fonts n = if n == 1 then number (length fonts) else if n == 3 then number 255 else number 128

-- numFonts 1, fontTable 2, maxFontCharacters 3, characterTable 4, fontMaxCharacterSize 5
abbrev pub table_at : ℕ → Option FontTable
table_at n = if n == 2 then Some Fonts else if n == 4 then Some Characters else None

abbrev pub object_of : List FontModel → ℕ → Option FontTable → Tree
object_of fonts n (Some table) = table_cells table fonts
object_of fonts n None = scalar (scalar_value fonts n)

abbrev pub font_object : List FontModel → ℕ → Tree
font_object fonts n = object_of fonts n (table_at n)

abbrev pub font_objects : List FontModel → Tree
font_objects fonts = Span 1 5 (font_object fonts)

-- fonts stand at 3 below dms
abbrev pub fonts_node : List ℕ
fonts_node = below_dms (3 ∷ [])

-- what a name reads
unfoldable pub fonts_value : FaceModel → List ℕ → Option ObjectValue
fonts_value face name = tree_value (under fonts_node (font_objects face.fonts)) name

-- the first instance after a name
unfoldable pub fonts_after : FaceModel → List ℕ → Option VarBind
fonts_after face name = tree_after (under fonts_node (font_objects face.fonts)) name
