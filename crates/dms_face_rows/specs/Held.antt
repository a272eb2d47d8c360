-- A page that is laid out in place (this profile): its characters one after another, and which of them are each line's.
use Rattle.std.specs.Prelude.{◌≡◌, ℕ, ◌+◌, ◌-◌, ◌==◌, ◌≤◌, ◌&&◌, Bool, true, if◌then◌else◌}
use Rattle.std.specs.Prelude.{List, [], ◌∷◌, map, length, nat_le, slice_range}
use Rattle.std.specs.List.{list_all}
use Rattle.dms_multi.specs.declared.item.Item.{Item}
use Rattle.dms_multi.specs.Outcomes.{items_of}
use Rattle.dms_face.specs.Face.{FaceModel}
use Rattle.dms_face.specs.Layout.{Character, Line, PageModel, Layout, closed, page_of, blank_layout, with_item}
use Rattle.dms_face.specs.Fit.{is_new_page}
use Rattle.dms_face_rows.specs.declared.held.HeldLine.{HeldLine}
use Rattle.dms_face_rows.specs.declared.held.HeldPage.{HeldPage}
use Rattle.dms_face_pages.specs.StylingView.{style_of}

-- ---- a page as the code keeps it

abbrev pub characters_in : List Character → HeldLine → List Character
characters_in characters line = slice_range characters line.first line.past

abbrev pub line_of : List Character → HeldLine → Line
line_of characters line =
    record { characters = characters_in characters line; part = line.part; font = line.font.now; gap = line.gap }

abbrev pub lines_of : HeldPage → List Line
lines_of page = map (line_of page.characters.items) page.lines.items

-- the layout of the page alone, with its open line
abbrev pub layout_of : HeldPage → Layout
layout_of page = record {
  pages = [];
  lines = lines_of page;
  characters = slice_range page.characters.items page.first (length page.characters.items);
  gap = page.gap;
  style = style_of page.style;
}

-- the page with the lines that are closed
abbrev pub page_held : HeldPage → PageModel
page_held page = page_of (style_of page.style) (lines_of page)

abbrev pub is_inside : ℕ → HeldLine → Bool
is_inside count line = nat_le line.first line.past && nat_le line.past count

-- The lines stand among the characters, and so does the beginning of the one that is not closed.
pub record IsHeld (page : HeldPage) : Type 0 where
  pub lines : list_all (is_inside (length page.characters.items)) page.lines.items ≡ true
  pub rest : page.first ≤ length page.characters.items

-- what is held of a page: each item of a text adds a character or a line at most
abbrev pub count_held : HeldPage → ℕ
count_held page = length page.characters.items + length page.lines.items

-- ---- one page of a text

-- a layout without the pages that are closed
abbrev pub alone : Layout → Layout
alone layout = record layout { pages = [] }

abbrev pub page_now : Layout → PageModel
page_now layout = page_of layout.style (closed layout)

-- an item ends the page, with no other to end before it
abbrev pub is_over : ℕ → Item → Bool
is_over others item = (others == 0) && is_new_page item

-- the others that are left after an item
abbrev pub others_after : ℕ → Item → ℕ
others_after others item = if is_new_page item then others - 1 else others

-- the page that ends after so many others, where these items follow
abbrev pub page_from : FaceModel → Layout → ℕ → List Item → PageModel
page_from face layout others [] = page_now layout
page_from face layout others (item ∷ items) =
    if is_over others item then page_now layout
    else page_from face (alone (with_item face layout item)) (others_after others item) items

-- the page of a text with this number from 0
abbrev pub page_of_text : FaceModel → ℕ → List ℕ → PageModel
page_of_text face number text = page_from face (blank_layout face) number (items_of text)
