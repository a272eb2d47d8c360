-- What is printed of a text on a face (this profile).
use Rattle.std.specs.Prelude.{ℕ, ◌-◌, List, ◌++◌, codes, decimal, Bool, true, false, Option, Some, None}
use Rattle.std.specs.Prelude.{Result, Ok, Err, slice_get, take}
use Rattle.signtool_calls.specs.declared.call.Drawing.{Drawing}
use Rattle.dms_face.specs.FaultCode.{number_of_code}
use Rattle.dms_face.specs.Face.{FaceModel}
use Rattle.dms_face.specs.Fit.{checked_text, most_pages}
use Rattle.dms_face.specs.declared.multi_fault.MultiFault.{MultiFault}
use Rattle.dms_face_pages.specs.Drawn.{DrawnPage, drawn_text}
use Rattle.dms_face_pages.specs.PageText.{page_text, pages_text}
use Rattle.dms_face_picture.specs.Picture.{picture_of, still_of}
use Rattle.signtool_print.specs.Printed.{Answer, answer}
use Rattle.signtool_print.specs.declared.statuses.ExitStatus.TheVariants.{Done, Refused}

-- ---- faults

abbrev pub fault_line : ℕ → ℕ → List ℕ
fault_line number place = codes "fault " ++ decimal number ++ codes " at " ++ decimal place ++ codes "\n"

abbrev pub fault_answer : MultiFault → Answer
fault_answer fault = answer Refused (fault_line (number_of_code fault.code) fault.place)

-- ---- how many pages

abbrev pub count_line : ℕ → List ℕ
count_line pages = codes "ok pages " ++ decimal pages ++ codes "\n"

abbrev pub count_answer : Result ℕ MultiFault → Answer
count_answer (Ok pages) = answer Done (count_line pages)
count_answer (Err fault) = fault_answer fault

-- of `check`: the number of the text's pages on a face, or its fault
abbrev pub check_answer : FaceModel → List ℕ → Answer
check_answer face text = count_answer (checked_text face text)

-- ---- pages

-- all pages: as a picture, or cell by cell
abbrev pub all_answer : Bool → FaceModel → List ℕ → List DrawnPage → Answer
all_answer true face text pages = answer Done (picture_of face.width face.height text (take most_pages pages))
all_answer false face text pages = answer Done (pages_text pages)

-- one page under its number
abbrev pub page_answer : Bool → List ℕ → ℕ → DrawnPage → Answer
page_answer true text number page = answer Done (still_of text page)
page_answer false text number page = answer Done (page_text (number, page))

abbrev pub one_answer : Bool → List ℕ → ℕ → Option DrawnPage → Answer
one_answer svg text number None = answer Refused (codes "no such page\n")
one_answer svg text number (Some page) = page_answer svg text number page

-- all pages, or the one that is wanted, counted from 1
abbrev pub wanted_answer : Bool → FaceModel → List ℕ → List DrawnPage → Option ℕ → Answer
wanted_answer svg face text pages None = all_answer svg face text pages
wanted_answer svg face text pages (Some number) = one_answer svg text number (slice_get pages (number - 1))

abbrev pub drawn_answer : Drawing → FaceModel → List ℕ → Result (List DrawnPage) MultiFault → Answer
drawn_answer drawing face text (Ok pages) = wanted_answer drawing.svg face text pages drawing.page
drawn_answer drawing face text (Err fault) = fault_answer fault

-- of `pages`: the text's pages on a face, or its fault
abbrev pub pages_answer : FaceModel → List ℕ → Drawing → Answer
pages_answer face text drawing = drawn_answer drawing face text (drawn_text face text)
