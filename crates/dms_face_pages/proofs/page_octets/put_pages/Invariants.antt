use Rattle.std.proofs.Common.{◌≡◌, ◌++◌, take, flat_map}
use Rattle.dms_face_pages.specs.PageOctets.{page_octets}
use Rattle.dms_face_pages.proofs.page_octets.put_pages.Given as goal

abbrev pub invariant-loop-page : goal.invariant-loop-page
invariant-loop-page l = l.octets.items ≡ l.initial.octets.items ++ flat_map (page_octets l.layer) (take l.page-index l.pages)
