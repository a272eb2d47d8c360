-- Defaults that are written while messages are up, on the bench sign, computed.
use Rattle.std.proofs.Common.{◌≡◌, ℕ, List, [], ◌∷◌, ◌++◌, refl, if◌then◌else◌, ◌+◌, map}
use Rattle.std.specs.Prelude.{pos, codes, slice_index_or}
use Rattle.dms_wire.specs.declared.message.Kind.TheVariants.{Set}
use Rattle.dms_face.specs.declared.cell.Cell.{Cell}
use Rattle.dms_face.specs.Layout.{PageModel, under}
use Rattle.dms_face.specs.Cells.{pages_of, cell_of}
use Rattle.dms_centre.specs.declared.ended.Ended.TheVariants.{Failed}
use Rattle.dms_centre.specs.declared.ended.Why.TheVariants.{Cause}
use Rattle.dms_world.specs.Event.{EventModel, sign_tick, to_sign, to_centre, power_lost, power_back, forge_sign}
use Rattle.dms_world.specs.World.{WorldModel}
use Rattle.dms_replay_laws.proofs.BenchWorld.{bench, after, report, hex, activate, request, set_number, set_code, sets, status_and_index, errors, statuses, fills, puts_up}

-- defaultFont becomes 2
abbrev font_two : EventModel
font_two = forge_sign (hex (codes "302b020100040561646d696ea31f02010902010002010030143012060d2b060104018936040203040500020102"))

-- ---- a text whose characters the default font has not is not put up

abbrev not_in_font : List EventModel
not_in_font = font_two ∷ activate (codes "ffffff020001750200000000") ∷ to_sign 0 ∷ to_centre 1 ∷ to_sign 1 ∷ to_centre 2 ∷ []

is_refused : report not_in_font
    ≡ codes "events 6\n"
    ++ codes "sent 2 3\n"
    ++ codes "shown 7 1 0000 mode 10 priority 1 remaining 65535 text -\n"
    ++ codes "ledger 1 ffffff020001750200000000 refused 5\n"
unfolding report hex
is_refused = refl

for_its_text : errors (after bench not_in_font) ≡ 8 ∷ 7 ∷ 0 ∷ []
unfolding after hex
for_its_text = refl

as_the_centre_reads : (after bench not_in_font).centre.last ≡ Failed 7 (Cause (pos 8))
unfolding after hex
as_the_centre_reads = refl

-- ---- what is up keeps its copy of the defaults, until it is put up again

-- "A" stands in the first changeable row and is up
abbrev letter : List EventModel
letter = fills 3 1 (codes "A") ++ sign_tick ∷ puts_up (codes "ffffff0300019a66c0000201") ∷ []

font_of_copy : (after bench (letter ++ font_two ∷ [])).sign.shown.defaults.font ≡ 1
unfolding after request hex
font_of_copy = refl

font_of_now : (after bench (letter ++ font_two ∷ [])).sign.settings.defaults.font ≡ 2
unfolding after request hex
font_of_now = refl

font_anew : (after bench (letter ++ font_two ∷ puts_up (codes "ffffff0300019a66c0000201") ∷ [])).sign.shown.defaults.font ≡ 2
unfolding after request hex
font_anew = refl

-- a code of what is shown keeps it
font_of_what_is_shown : (after bench (letter ++ font_two ∷ puts_up (codes "ffffff0500019a66c0000201") ∷ [])).sign.shown.defaults.font ≡ 1
unfolding after request hex
font_of_what_is_shown = refl

-- what is lost with the power keeps it too, where a code of what is shown brings it back
abbrev recovers : List EventModel
recovers = sets (set_code 6 9 (codes "0500010000")) ∷ power_lost ∷ power_back 1 ∷ []

font_over_power : (after bench (letter ++ font_two ∷ recovers)).sign.shown.defaults.font ≡ 1
unfolding after request hex
font_over_power = refl

-- ---- its page

abbrev no_page : PageModel
no_page = record { lines = []; background = 0; on = 0; off = 0 }

-- a point where nothing is lit, else the colour's digit
abbrev digit : Cell → ℕ
digit cell = if cell.lit then 48 + cell.colour else 46

-- columns 8 to 14 of a row of the first page of what is shown
abbrev drawn : WorldModel → ℕ → List ℕ
drawn world y =
    let face = under world.sign.config.face world.sign.shown.defaults in
    map (λ x. digit (cell_of face (slice_index_or (pages_of face world.sign.shown.text) 0 no_page) x y)) (8 ∷ 9 ∷ 10 ∷ 11 ∷ 12 ∷ 13 ∷ 14 ∷ [])

tall : drawn (after bench (letter ++ font_two ∷ [])) 3 ≡ codes ".99999."
unfolding after request hex pages_of cell_of
tall = refl

small : drawn (after bench (letter ++ font_two ∷ puts_up (codes "ffffff0300019a66c0000201") ∷ [])) 1 ≡ codes "..9.9.."
unfolding after request hex pages_of cell_of
small = refl

-- ---- one SET of the font and of a code: the code is judged under the new font, and nothing is set

judged_under_the_new : status_and_index bench (set_number 4 5 2 ∷ set_code 6 3 (codes "ffffff0200017502c0000201") ∷ []) ≡ (5, 2)
unfolding status_and_index hex
judged_under_the_new = refl

abbrev sets_both : EventModel
sets_both = request Set (set_number 4 5 2 ∷ set_code 6 3 (codes "ffffff0200017502c0000201") ∷ [])

nothing_is_set : (after bench (sets_both ∷ [])).sign.settings.defaults.font ≡ 1
unfolding after request hex
nothing_is_set = refl

but_the_errors : errors (after bench (sets_both ∷ [])) ≡ 8 ∷ 7 ∷ 0 ∷ []
unfolding after request hex
but_the_errors = refl

-- ---- a row is validated under the defaults of now, and stays valid under later ones

-- two lines, which font 1 is too tall for
abbrev two_lines : List EventModel
two_lines = fills 3 1 (codes "[nl]A")

error_before : statuses (after bench (two_lines ++ sign_tick ∷ [])) ≡ 5 ∷ 1 ∷ []
unfolding after request hex
error_before = refl

valid_after : statuses (after bench (font_two ∷ two_lines ++ sign_tick ∷ sets (set_number 4 5 1) ∷ [])) ≡ 4 ∷ 1 ∷ []
unfolding after request hex
valid_after = refl

-- ---- values out of their ranges, and fonts that the face has not

out_of_range : map (λ value. status_and_index bench (set_number 4 5 value ∷ [])) (0 ∷ 3 ∷ 256 ∷ 258 ∷ []) ≡ (3, 1) ∷ (3, 1) ∷ (3, 1) ∷ (3, 1) ∷ []
unfolding status_and_index
out_of_range = refl

justification_out_of_range : map (λ value. status_and_index bench (set_number 4 6 value ∷ [])) (1 ∷ 2 ∷ 4 ∷ 5 ∷ []) ≡ (3, 1) ∷ (0, 0) ∷ (0, 0) ∷ (3, 1) ∷ []
unfolding status_and_index
justification_out_of_range = refl
