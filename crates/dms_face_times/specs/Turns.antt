-- Which page of a picture is up, in tenths of a second since the picture came up (this profile, "Pictures").
use Rattle.std.specs.Prelude.{ℕ, ◌+◌, ◌-◌, ◌%◌, ◌==◌, ◌||◌, Bool, false, if◌then◌else◌, List, [], ◌∷◌, length}
use Rattle.std.specs.Prelude.{Some, None, nat_lt}
use Rattle.dms_face_times.specs.declared.times.PageTimes.{PageTimes}
use Rattle.dms_face_times.specs.declared.turns.PageUp.{PageUp}

-- how long a page and the time after it take
abbrev pub span : PageTimes → ℕ
span page = page.on + page.off

-- and all pages, once each
abbrev pub round : List PageTimes → ℕ
round [] = 0
round (page ∷ pages) = span page + round pages

-- one page without a time after it
abbrev pub is_alone : List PageTimes → Bool
is_alone (page ∷ []) = page.off == 0
is_alone pages = false

-- so do pages without any time: the last is above the others
abbrev pub stay : List PageTimes → Bool
stay pages = (round pages == 0) || is_alone pages

-- Of pages that take turns from this number on, the one that is up, or none in the time after a page: since when, and
-- for how long still.
abbrev pub turn_from : ℕ → ℕ → List PageTimes → PageUp
turn_from number tenth [] = record { page = None; since = tenth; left = None }
turn_from number tenth (page ∷ pages) =
    if nat_lt tenth page.on then record { page = Some number; since = tenth; left = Some (page.on - tenth) }
    else if nat_lt tenth (span page) then record { page = None; since = tenth; left = Some (span page - tenth) }
    else turn_from (number + 1) (tenth - span page) pages

-- what is up when the picture has been up for so many tenths: a page that stays has no end
abbrev pub turn_at : List PageTimes → ℕ → PageUp
turn_at pages tenth =
    if stay pages then record { page = Some (length pages - 1); since = tenth; left = None }
    else turn_from 0 (tenth % round pages) pages
