-- When a page is shown and when a flash is lit, in tenths of a second (NTCIP 1203, MULTI: page times and flashes; how a
-- picture plays them is this profile's). An animation of the document has a value for each tenth.
use Rattle.std.specs.Prelude.{ℕ, ◌+◌, ◌-◌, ◌/◌, ◌%◌, ◌==◌, ◌&&◌, ◌||◌, Bool, true}
use Rattle.std.specs.Prelude.{if◌then◌else◌, List, [], ◌++◌, codes, decimal, nat_le, nat_lt}
use Rattle.std.specs.List.{flat_map, range_with_len}
use Rattle.dms_multi.specs.declared.item.Lead.{Lead}
use Rattle.dms_multi.specs.declared.item.Lead.TheVariants.{Lit, Dark}
use Rattle.dms_face.specs.declared.cell.Flash.{Flash}
use Rattle.dms_face_pages.specs.Drawn.{DrawnPage}
use Rattle.dms_face_picture.specs.declared.motion.PageTurn.{PageTurn}
use Rattle.dms_face_picture.specs.declared.motion.Motion.{Motion}
use Rattle.dms_face_picture.specs.declared.motion.Motion.TheVariants.{Still, Stays, Turns}
use Rattle.dms_face_picture.specs.declared.motion.Rhythm.{Rhythm}
use Rattle.dms_face_picture.specs.declared.motion.Rhythm.TheVariants.{Shown, Flashing}

-- ---- when something is lit

-- a page is shown from its turn's beginning on, for its time
abbrev pub is_shown : PageTurn → ℕ → Bool
is_shown turn tenth = nat_le turn.start tenth && nat_lt tenth (turn.start + turn.on)

abbrev pub period : Flash → ℕ
period flash = flash.lit + flash.dark

-- a flash begins with one of its two times, and goes on over and over; without times it is lit
abbrev pub lit_in_period : Lead → Flash → ℕ → Bool
lit_in_period Lit flash tenth = nat_lt tenth flash.lit
lit_in_period Dark flash tenth = nat_le flash.dark tenth

abbrev pub flash_is_lit : Flash → ℕ → Bool
flash_is_lit flash tenth = if period flash == 0 then true else lit_in_period flash.first flash (tenth % period flash)

-- a flash begins again where its page is shown again
abbrev pub is_on : Rhythm → ℕ → Bool
is_on (Shown turn) tenth = is_shown turn tenth
is_on (Flashing flash start) tenth = flash_is_lit flash (tenth - start)

-- ---- how a page of a message moves

-- A message of one page without an off time stays. Else its pages take turns, each for its time, and none is shown in a
-- page's off time.
abbrev pub motion_of : ℕ → ℕ → ℕ → DrawnPage → Motion
motion_of count round start page =
    if round == 0 || (count == 1 && page.off == 0) then Stays
    else Turns (record { start = start; on = page.on; round = round })

-- ---- as text

abbrev pub value : Bool → List ℕ
value lit = if lit then codes "1" else codes "0"

-- the value at each further tenth
abbrev pub next_value : Rhythm → ℕ → List ℕ
next_value rhythm tenth = codes ";" ++ value (is_on rhythm tenth)

abbrev pub seconds : ℕ → List ℕ
seconds tenths = decimal (tenths / 10) ++ codes "." ++ decimal (tenths % 10)

-- how long it takes, and its first value
abbrev pub animation_start : ℕ → Bool → List ℕ
animation_start tenths first =
    codes "<animate attributeName=\"opacity\" calcMode=\"discrete\" repeatCount=\"indefinite\" dur=\"" ++ seconds tenths
    ++ codes "s\" values=\"" ++ value first

-- so many tenths, over and over
abbrev pub some_animation : ℕ → Rhythm → List ℕ
some_animation tenths rhythm = animation_start tenths (is_on rhythm 0)
    ++ flat_map (next_value rhythm) (range_with_len 1 (tenths - 1)) ++ codes "\"/>"

-- none at all is no animation
abbrev pub animation : ℕ → Rhythm → List ℕ
animation tenths rhythm = if tenths == 0 then [] else some_animation tenths rhythm

abbrev pub page_animation : Motion → List ℕ
page_animation Still = []
page_animation Stays = []
page_animation (Turns turn) = animation turn.round (Shown turn)

abbrev pub flash_animation : Motion → Flash → List ℕ
flash_animation Still flash = []
flash_animation Stays flash = animation (period flash) (Flashing flash 0)
flash_animation (Turns turn) flash = animation turn.round (Flashing flash turn.start)
