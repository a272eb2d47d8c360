-- In how many tenths of a second what a text shows changes by itself: by the next page, or by the next turn of a flash
-- of its page (NTCIP 1203, MULTI: page times and flashes; a flash begins as its page does, this profile).
use Rattle.std.specs.Prelude.{ℕ, ◌+◌, ◌-◌, ◌%◌, ◌==◌, ◌||◌, if◌then◌else◌, List, fold, min}
use Rattle.std.specs.Prelude.{Option, Some, None, nat_lt}
use Rattle.dms_multi.specs.declared.item.Lead.{Lead}
use Rattle.dms_multi.specs.declared.item.Lead.TheVariants.{Lit, Dark}
use Rattle.dms_face.specs.declared.cell.Flash.{Flash}
use Rattle.dms_face.specs.Face.{FaceModel}
use Rattle.dms_face.specs.Layout.{Character}
use Rattle.dms_face.specs.Cells.{pages_of}
use Rattle.dms_face.specs.Rules.{characters_from}
use Rattle.dms_face_times.specs.Times.{page_times}
use Rattle.dms_face_times.specs.Turns.{turn_at}

-- the sooner of two times, of which each may never come
abbrev pub sooner : Option ℕ → Option ℕ → Option ℕ
sooner None other = other
sooner (Some one) None = Some one
sooner (Some one) (Some other) = Some (min one other)

-- ---- a flash

abbrev pub first_time : Lead → Flash → ℕ
first_time Lit flash = flash.lit
first_time Dark flash = flash.dark

-- so many tenths after a period's beginning, its first time ends next, or the period
abbrev pub period_due : ℕ → ℕ → ℕ → ℕ
period_due first period at = if nat_lt at first then first - at else period - at

-- a flash of which one time is 0 stays as it is
abbrev pub flash_due : ℕ → Option Flash → Option ℕ
flash_due since None = None
flash_due since (Some flash) =
    if (flash.lit == 0) || (flash.dark == 0) then None
    else Some (period_due (first_time flash.first flash) (flash.lit + flash.dark) (since % (flash.lit + flash.dark)))

-- of a page's characters, the next turn of a flash, when the page has been up for so many tenths
abbrev pub with_character : ℕ → ℕ → Option ℕ → ℕ × Character → Option ℕ
with_character number since due numbered =
    if numbered.0 == number then sooner due (flash_due since numbered.1.style.flash) else due

abbrev pub flashes_due : ℕ → ℕ → List (ℕ × Character) → Option ℕ
flashes_due number since characters = fold (with_character number since) None characters

-- ---- what is up

abbrev pub page_due : FaceModel → List ℕ → ℕ → Option ℕ → Option ℕ
page_due face text since None = None
page_due face text since (Some number) = flashes_due number since (characters_from 0 (pages_of face text))

-- when the text has been up for so many tenths; none where it stays as it is
abbrev pub due : FaceModel → List ℕ → ℕ → Option ℕ
due face text tenth = sooner (turn_at (page_times face text) tenth).left
    (page_due face text (turn_at (page_times face text) tenth).since (turn_at (page_times face text) tenth).page)
