-- One page of a text, and one row of it, as octets (this profile).
use Rattle.std.specs.Prelude.{ℕ, if◌then◌else◌, List, ◌++◌, drop, length, nat_lt}
use Rattle.std.specs.Prelude.{Option, Some, None, Result, Ok, Err, slice_get}
use Rattle.dms_face.specs.declared.multi_fault.MultiFault.{MultiFault}
use Rattle.dms_face_pages.specs.Drawn.{DrawnPage}
use Rattle.dms_face_pages.specs.declared.page_octets.Layer.{Layer}
use Rattle.dms_face_pages.specs.PageOctets.{row_octets}

-- the page with this number from 0, where a text can be shown and has it
abbrev pub page_numbered : ℕ → Result (List DrawnPage) MultiFault → Option DrawnPage
page_numbered number (Ok pages) = slice_get pages number
page_numbered number (Err fault) = None

-- its row with this number from 0, where it has that
abbrev pub row_numbered : Layer → ℕ → Option DrawnPage → Option (List ℕ)
row_numbered layer y None = None
row_numbered layer y (Some page) = if nat_lt y page.height then Some (row_octets layer page y) else None

-- octets that there are stand first in a buffer that has room for them; else it stays as it is
abbrev pub put_in : Option (List ℕ) → List ℕ → List ℕ
put_in None buffer = buffer
put_in (Some octets) buffer =
    if nat_lt (length buffer) (length octets) then buffer else octets ++ drop (length octets) buffer
