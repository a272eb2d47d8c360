-- The times of a text's pages (NTCIP 1203, MULTI: page times).
use Rattle.std.specs.Prelude.{ℕ, List, map, take}
use Rattle.dms_face.specs.Face.{FaceModel}
use Rattle.dms_face.specs.Layout.{PageModel}
use Rattle.dms_face.specs.Fit.{most_pages}
use Rattle.dms_face.specs.Cells.{pages_of}
use Rattle.dms_face_times.specs.declared.times.PageTimes.{PageTimes}

-- how long a page is shown and how long nothing is shown after it, and its background
abbrev pub times_of : PageModel → PageTimes
times_of page = record { background = page.background; on = page.on; off = page.off }

-- those of the first six pages; a text that can be shown has no more
abbrev pub page_times : FaceModel → List ℕ → List PageTimes
page_times face text = take most_pages (map times_of (pages_of face text))
