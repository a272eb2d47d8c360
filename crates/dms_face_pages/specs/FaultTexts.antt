-- What the faults of pages print (this profile).
use Rattle.std.specs.Prelude.{ℕ, List, codes}
use Rattle.dms_face.specs.FaultTexts.{multi_fault_text}
use Rattle.dms_face_pages.specs.declared.text_pages.PagesFault.{PagesFault}
use Rattle.dms_face_pages.specs.declared.text_pages.PagesFault.TheVariants.{Multi, Memory}

abbrev pub pages_fault_text : PagesFault → List ℕ
pages_fault_text (Multi fault) = multi_fault_text fault
pages_fault_text Memory = codes "out of memory"
