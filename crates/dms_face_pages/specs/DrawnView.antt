-- What the calls that make pages answer (this profile).
use Rattle.std.specs.Prelude.{◌≡◌, List, IsTrue, Result, Ok, Err, is_ok}
use Rattle.dms_face.specs.declared.multi_fault.MultiFault.{MultiFault}
use Rattle.dms_face_pages.specs.declared.text_pages.PagesFault.{PagesFault}
use Rattle.dms_face_pages.specs.declared.text_pages.PagesFault.TheVariants.{Multi, Memory}
use Rattle.dms_face_pages.specs.Drawn.{DrawnPage}

-- the expected pages, or the fault that is expected; memory may run out only where pages are expected
abbrev pub GivesPages : {A : Type 0} → (A → List DrawnPage) → Result A PagesFault
    → Result (List DrawnPage) MultiFault → Type 0
GivesPages view (Ok pages) expected = expected ≡ Ok (view pages)
GivesPages view (Err (Multi fault)) expected = expected ≡ Err fault
GivesPages view (Err Memory) expected = IsTrue (is_ok expected)
