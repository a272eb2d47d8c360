-- What a walk that lays out the items of a text answers (this profile).
use Rattle.std.specs.Prelude.{◌≡◌, ℕ, ⊤, List, Some, None, Result, Ok, Err}
use Rattle.dms_face.specs.Face.{FaceModel}
use Rattle.dms_face.specs.Layout.{PageModel}
use Rattle.dms_face.specs.Fit.{fault_of}
use Rattle.dms_face.specs.Cells.{pages_of}
use Rattle.dms_face_pages.specs.declared.text_pages.PagesFault.{PagesFault}
use Rattle.dms_face_pages.specs.declared.text_pages.PagesFault.TheVariants.{Multi, Memory}

-- the pages of a text that has no fault, or its fault; out of memory, nothing is said of the text
abbrev pub GivesLaid : {A : Type 0} → (A → List PageModel) → Result A PagesFault → FaceModel → List ℕ → Type 0
GivesLaid view (Ok pages) face text = (view pages ≡ pages_of face text) × (fault_of face text ≡ None)
GivesLaid view (Err (Multi fault)) face text = fault_of face text ≡ Some fault
GivesLaid view (Err Memory) face text = ⊤
