-- A row of a page of what a sign shows, as it is given to C (this profile).
use Rattle.std.specs.Prelude.{ℕ, List, length, Option, Some, None, slice_get}
use Rattle.dms_face_pages.specs.Drawn.{DrawnPage}
use Rattle.dms_face_pages.specs.declared.page_octets.Layer.{Layer}
use Rattle.dms_face_rows.specs.Rows.{row_numbered}
use Rattle.dms_sign.specs.State.{SignState}
use Rattle.dms_sign_lines.specs.Answer.{shown_pages}
use Rattle.wisangub_c.specs.Answers.{at_fault, out_of_range, given_answer, given_buffer}

-- the page with this number from 0, where what is shown has it
abbrev pub shown_page : ℕ → SignState → Option DrawnPage
shown_page number s = slice_get (shown_pages s) number

-- ---- octets that there are, or none

abbrev pub found_answer : Option (List ℕ) → ℕ → ℕ
found_answer None room = at_fault
found_answer (Some octets) room = given_answer octets room

abbrev pub found_size : Option (List ℕ) → ℕ → ℕ
found_size None old = old
found_size (Some octets) old = length octets

abbrev pub found_buffer : Option (List ℕ) → List ℕ → List ℕ
found_buffer None buffer = buffer
found_buffer (Some octets) buffer = given_buffer octets buffer

-- ---- a row of the page; without a layer nothing is done

abbrev pub row_answer : Option Layer → ℕ → Option DrawnPage → ℕ → ℕ
row_answer None y page room = out_of_range
row_answer (Some layer) y page room = found_answer (row_numbered layer y page) room

abbrev pub row_size : Option Layer → ℕ → Option DrawnPage → ℕ → ℕ
row_size None y page old = old
row_size (Some layer) y page old = found_size (row_numbered layer y page) old

abbrev pub row_buffer : Option Layer → ℕ → Option DrawnPage → List ℕ → List ℕ
row_buffer None y page buffer = buffer
row_buffer (Some layer) y page buffer = found_buffer (row_numbered layer y page) buffer
