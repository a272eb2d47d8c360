-- The pages of what a sign shows and of a text, as they are given to C (this profile).
use Rattle.std.specs.Prelude.{ℕ, List, length, Option, Some, None, Result, Ok, Err, nat_lt, if◌then◌else◌, option_map}
use Rattle.dms_face.specs.declared.multi_fault.MultiFault.{MultiFault}
use Rattle.dms_face_pages.specs.Drawn.{DrawnPage}
use Rattle.dms_sign.specs.State.{SignState}
use Rattle.dms_face_pages.specs.declared.page_octets.Layer.{Layer}
use Rattle.dms_face_pages.specs.PageOctets.{layer_of, pages_octets}
use Rattle.dms_sign_lines.specs.Answer.{shown_pages}
use Rattle.wisangub_c.specs.Answers.{at_fault, out_of_range, given_answer, given_buffer}
use Rattle.wisangub_c.specs.Shown.{fault_after}
use Rattle.wisangub_c.specs.declared.shown_calls.TextFault.{TextFault}

-- what an octet says of its cell: 0, 1 or 2, and no other number
abbrev pub layer_at : ℕ → Option Layer
layer_at number = if nat_lt number 3 then Some (layer_of number) else None

abbrev pub shown_octets : ℕ → SignState → Option (List ℕ)
shown_octets number s = option_map (λ layer. pages_octets layer (shown_pages s)) (layer_at number)

-- ---- the pages of a text, or its fault; without a layer nothing is done

abbrev pub drawn_answer : Option Layer → Result (List DrawnPage) MultiFault → ℕ → ℕ
drawn_answer None drawn room = out_of_range
drawn_answer (Some layer) (Ok pages) room = given_answer (pages_octets layer pages) room
drawn_answer (Some layer) (Err fault) room = at_fault

abbrev pub drawn_size : Option Layer → Result (List DrawnPage) MultiFault → ℕ → ℕ
drawn_size None drawn old = old
drawn_size (Some layer) (Ok pages) old = length (pages_octets layer pages)
drawn_size (Some layer) (Err fault) old = old

abbrev pub drawn_buffer : Option Layer → Result (List DrawnPage) MultiFault → List ℕ → List ℕ
drawn_buffer None drawn buffer = buffer
drawn_buffer (Some layer) (Ok pages) buffer = given_buffer (pages_octets layer pages) buffer
drawn_buffer (Some layer) (Err fault) buffer = buffer

abbrev pub drawn_fault : Option Layer → Result (List DrawnPage) MultiFault → TextFault → TextFault
drawn_fault None drawn old = old
drawn_fault (Some layer) drawn old = fault_after drawn old
