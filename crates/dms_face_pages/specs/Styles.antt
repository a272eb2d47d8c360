-- The styles that the characters of a page take, each once (this profile).
use Rattle.std.specs.Prelude.{ℕ, Bool, if◌then◌else◌, List, [], ◌∷◌, ◌++◌, length, fold, nat_le}
use Rattle.std.specs.List.{list_any, list_all}
use Rattle.dms_face.specs.declared.cell.Cell.{Cell}
use Rattle.dms_face.specs.Layout.{Character, Line, PageModel}
use Rattle.dms_face_pages.specs.Drawn.{unlit}
use Rattle.dms_face_pages.specs.Drawing.{lit_cell}
use Rattle.dms_face_pages.specs.SameCells.{same_cell}

-- one of these styles is that of cells that show this
abbrev pub is_style : List Cell → Cell → Bool
is_style styles cell = list_any (same_cell cell) styles

-- and what cells show, where it is none of them
abbrev pub with_style : List Cell → Cell → List Cell
with_style styles cell = if is_style styles cell then styles else styles ++ cell ∷ []

abbrev pub with_character : List Cell → Character → List Cell
with_character styles character = with_style styles (lit_cell character.style)

abbrev pub with_line : List Cell → Line → List Cell
with_line styles line = fold with_character styles line.characters

-- the styles of a page's cells: that of cells that are not lit, and each that its characters take, once
abbrev pub page_styles : PageModel → List Cell
page_styles page = fold with_line (unlit page.background ∷ []) page.lines

-- as many styles as an octet can name
abbrev pub most_styles : ℕ
most_styles = 256

abbrev pub has_room_for_styles : PageModel → Bool
has_room_for_styles page = nat_le (length (page_styles page)) most_styles

-- ---- characters whose styles are among these

abbrev pub has_style : List Cell → Character → Bool
has_style styles character = is_style styles (lit_cell character.style)

abbrev pub has_styles : List Cell → Line → Bool
has_styles styles line = list_all (has_style styles) line.characters
