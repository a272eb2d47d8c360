use Rattle.std.proofs.Common.{◌≡◌, take, map}
use Rattle.dms_face_pages.specs.Drawn.{drawn}
use Rattle.dms_face_pages.proofs.text_pages.drawn_pages.Given as goal

abbrev pub invariant-loop-page : goal.invariant-loop-page
invariant-loop-page l = l.pages.items ≡ map (drawn l.face) (take l.page-index l.laid)
