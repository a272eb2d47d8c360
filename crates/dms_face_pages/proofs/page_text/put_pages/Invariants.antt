use Rattle.std.proofs.Common.{◌≡◌, ◌++◌, take, flat_map}
use Rattle.std.specs.List.{enumerate_from}
use Rattle.dms_face_pages.specs.PageText.{page_text}
use Rattle.dms_face_pages.proofs.page_text.put_pages.Given as goal

abbrev pub invariant-loop-index : goal.invariant-loop-index
invariant-loop-index l = l.text.items ≡ l.initial.text.items ++ flat_map page_text (enumerate_from 1 (take l.index l.pages))
