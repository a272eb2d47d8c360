-- What is known of a text while its items are walked (this profile).
use Rattle.std.specs.Prelude.{ℕ, ◌-◌, ◌==◌, ◌&&◌, Bool, true, false, if◌then◌else◌, List, [], ◌∷◌, ◌++◌, length, nat_lt}
use Rattle.std.specs.Prelude.{Option, Some, None, unwrap_or, Result, Ok, Err}
use Rattle.dms_multi.specs.declared.spots.Spot.{Spot}
use Rattle.dms_multi.specs.declared.fault.SyntaxFault.{SyntaxFault}
use Rattle.dms_multi.specs.declared.item.Item.{Item}
use Rattle.dms_multi.specs.declared.item.Item.TheVariants.{Char, Background, Font, FlashOn, FlashEnd, NewPage, PageTime}
use Rattle.dms_face.specs.declared.cell.Flash.{Flash}
use Rattle.dms_face.specs.declared.defaults.Defaults.{Defaults}
use Rattle.dms_face_font.specs.Glyph.{GlyphModel}
use Rattle.dms_face_font.specs.Font.{FontModel, glyph_of}
use Rattle.dms_face.specs.Face.{FaceModel, font_of}
use Rattle.dms_face.specs.Layout.{no_font}
use Rattle.dms_face.specs.Fit.{most_pages}
use Rattle.dms_face_times.specs.declared.times.PageTimes.{PageTimes}
use Rattle.dms_face_times.specs.Due.{sooner, flash_due}

abbrev pub item_in : Result Spot SyntaxFault → Option Item
item_in (Ok spot) = Some spot.item
item_in (Err fault) = None

-- ---- pages

-- what holds before the first item
abbrev pub first_times : Defaults → PageTimes
first_times defaults = record { background = defaults.background; on = defaults.on; off = defaults.off }

-- and after an item
abbrev pub times_after : Defaults → PageTimes → Item → PageTimes
times_after defaults now (Background colour) = record now { background = unwrap_or colour defaults.background }
times_after defaults now (PageTime on off) =
    record now { on = unwrap_or on defaults.on; off = unwrap_or off defaults.off }
times_after defaults now item = now

-- the pages that end from here on
abbrev pub times_left : Defaults → PageTimes → List Item → List PageTimes
times_left defaults now [] = now ∷ []
times_left defaults now (NewPage ∷ items) = now ∷ times_left defaults now items
times_left defaults now (item ∷ items) = times_left defaults (times_after defaults now item) items

-- a page more, of at most six
abbrev pub pushed : List PageTimes → PageTimes → List PageTimes
pushed pages page = if nat_lt (length pages) most_pages then pages ++ page ∷ [] else pages

-- and what becomes of the pages and of what holds, where an item is read
abbrev pub next_pages : List PageTimes → PageTimes → Option Item → List PageTimes
next_pages pages now (Some NewPage) = pushed pages now
next_pages pages now item = pages

abbrev pub next_times : Defaults → PageTimes → Option Item → PageTimes
next_times defaults now None = now
next_times defaults now (Some item) = times_after defaults now item

-- ---- flashes

-- what holds for characters
pub record LetteringModel : Type 0 where
  pub font : FontModel
  pub flash : Option Flash

abbrev pub first_lettering : FaceModel → LetteringModel
first_lettering face = record { font = unwrap_or (font_of face face.defaults.font) no_font; flash = None }

abbrev pub lettering_after : FaceModel → LetteringModel → Item → LetteringModel
lettering_after face now (Font None) = record now { font = unwrap_or (font_of face face.defaults.font) now.font }
lettering_after face now (Font (Some wanted)) = record now { font = unwrap_or (font_of face wanted.0) now.font }
lettering_after face now (FlashOn first lit dark) = record now {
  flash = Some (record {
    first = first;
    lit = unwrap_or lit face.defaults.flash_on;
    dark = unwrap_or dark face.defaults.flash_off;
  });
}
lettering_after face now FlashEnd = record now { flash = None }
lettering_after face now item = now

-- with a character, where the font has it
abbrev pub due_with : ℕ → Option Flash → Option GlyphModel → Option ℕ → Option ℕ
due_with since flash None due = due
due_with since flash (Some glyph) due = sooner due (flash_due since flash)

-- the next turn of a flash of the page that comes after so many others, with what is due already
abbrev pub due_from : FaceModel → ℕ → LetteringModel → ℕ → List Item → Option ℕ → Option ℕ
due_from face since now others [] due = due
due_from face since now others (NewPage ∷ items) due =
    if others == 0 then due else due_from face since now (others - 1) items due
due_from face since now others (Char character ∷ items) due = due_from face since now others items
    (if others == 0 then due_with since now.flash (glyph_of now.font character) due else due)
due_from face since now others (item ∷ items) due =
    due_from face since (lettering_after face now item) others items due

-- what becomes of it, where an item is read; the end of the page ends the walk
abbrev pub is_page : Option Item → Bool
is_page (Some NewPage) = true
is_page item = false

abbrev pub is_over : ℕ → Option Item → Bool
is_over others item = (others == 0) && is_page item

abbrev pub next_others : ℕ → Option Item → ℕ
next_others others (Some NewPage) = others - 1
next_others others item = others

abbrev pub next_lettering : FaceModel → LetteringModel → Option Item → LetteringModel
next_lettering face now None = now
next_lettering face now (Some item) = lettering_after face now item

abbrev pub next_due : ℕ → LetteringModel → ℕ → Option Item → Option ℕ → Option ℕ
next_due since now others (Some (Char character)) due =
    if others == 0 then due_with since now.flash (glyph_of now.font character) due else due
next_due since now others item due = due
