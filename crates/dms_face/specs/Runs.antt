-- Characters that octets spell by themselves, one after another, on a line that they make neither higher nor more
-- widely spaced (this profile).
use Rattle.std.specs.Prelude.{◌≡◌, ℕ, ◌+◌, ◌<◌, ◌≤◌, true, if◌then◌else◌, List, [], ◌∷◌, Option, Some, None, nat_lt}
use Rattle.dms_multi.specs.Grammar.{is_bracket}
use Rattle.dms_face_font.specs.Glyph.{GlyphModel}
use Rattle.dms_face_font.specs.Font.{FontModel, glyph_of}
use Rattle.dms_face.specs.declared.justification.Place.{Place}
use Rattle.dms_face.specs.declared.justification.Place.TheVariants.{Start, Halfway, End}
use Rattle.dms_face.specs.declared.room.Run.{Run}
use Rattle.dms_face.specs.declared.room.Places.{Places}
use Rattle.dms_face.specs.declared.totals.Totals.{Totals}
use Rattle.dms_face.specs.Justification.{place_of_side}
use Rattle.dms_face.specs.Room.{span, have_room}
use Rattle.dms_face.specs.Totals.{AreWithin}

-- ---- sums at one place

abbrev pub run_at : Place → Places → Run
run_at Start places = places.start
run_at Halfway places = places.halfway
run_at End places = places.end

-- the same with blocks of this size there
abbrev pub sized : Place → ℕ → Places → Places
sized Start size places = record places { start = record places.start { size = size } }
sized Halfway size places = record places { halfway = record places.halfway { size = size } }
sized End size places = record places { end = record places.end { size = size } }

-- whether the sums have room beside each other
abbrev pub HaveRoom : ℕ → Places → Type 0
HaveRoom whole places = have_room whole (span whole Start places.start.size ∷ span whole Halfway places.halfway.size
    ∷ span whole End places.end.size ∷ []) ≡ true

-- what sums of less than this size at a place need
pub record IsLimit (whole : ℕ) (place : Place) (places : Places) (limit : ℕ) : Type 0 where
  pub room : (size : ℕ) → size < limit → HaveRoom whole (sized place size places)
  pub within : (size : ℕ) → size < limit → AreWithin 256 (sized place size places)

-- ---- runs

-- what follows the character of an octet, where the font has it and there is room
abbrev pub run_with : FontModel → ℕ → List ℕ → ℕ → (ℕ → List ℕ × ℕ) → Option GlyphModel → List ℕ × ℕ
run_with font limit text size more None = (text, size)
run_with font limit text size more (Some glyph) =
    if nat_lt (size + font.character_spacing + glyph.width) limit
    then more (size + font.character_spacing + glyph.width)
    else (text, size)

-- the octets after those that spell characters of the font by themselves, each behind the ones before it, as long as
-- the size stays below the limit; and the size
unfoldable pub run_after : FontModel → ℕ → List ℕ → ℕ → List ℕ × ℕ
run_after font limit [] size = ([], size)
run_after font limit (c ∷ cs) size =
    if is_bracket c then (c ∷ cs, size)
    else run_with font limit (c ∷ cs) size (run_after font limit cs) (glyph_of font c)

-- ---- the open line

-- its characters at the place of the next one take this room
abbrev pub with_size : ℕ → Totals → Totals
with_size size totals = record totals { characters = sized (place_of_side totals.side) size totals.characters }

-- Characters of the font follow one of as much spacing there, on a line that they change no more than by their columns.
pub record IsRunning (whole : ℕ) (totals : Totals) (limit : ℕ) : Type 0 where
  pub any : (run_at (place_of_side totals.side) totals.characters).any ≡ true
  pub spacing : (run_at (place_of_side totals.side) totals.characters).spacing ≡ totals.font.now.character_spacing
  pub low : totals.font.now.height ≤ totals.height
  pub close : totals.font.now.line_spacing ≤ totals.spacing
  pub room : IsLimit whole (place_of_side totals.side) totals.characters limit
