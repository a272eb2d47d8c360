-- The pages of a message, one after the other.
use Rattle.std.proofs.Common.{◌≡◌, ◌∙◌, sym, ℕ, ◌+◌, List, ◌∷◌, ◌++◌, ap, arith, append_assoc}
use Rattle.std.proofs.lemmas.List.Sums.{sum_by-cons}
use Rattle.dms_face_pages.specs.Drawn.{DrawnPage}
use Rattle.dms_face_picture.specs.declared.motion.Motion.{Motion}
use Rattle.dms_face_picture.specs.Motion.{motion_of}
use Rattle.dms_face_picture.specs.Picture.{page_time, page_group, groups_from, round_of}

-- what is written and what is left stay the same text where a page is written
pub one_more : (count round start time : ℕ) (motion : Motion) (out new text : List ℕ) (page : DrawnPage) (others rest : List DrawnPage)
    → motion ≡ motion_of count round start page → time ≡ page_time page → rest ≡ page ∷ others → new ≡ out ++ page_group motion page
    → out ++ groups_from count round start rest ≡ text → new ++ groups_from count round (start + time) others ≡ text
one_more count round start time motion out new text page others rest moves takes begins put so_far =
    ap (λ xs. xs ++ groups_from count round (start + time) others) (put ∙ ap (λ motion. out ++ page_group motion page) moves)
    ∙ ap (λ time. (out ++ page_group (motion_of count round start page) page) ++ groups_from count round (start + time) others) takes
    ∙ grouped (page_group (motion_of count round start page) page) (groups_from count round (start + page_time page) others)
    ∙ ap (λ pages. out ++ groups_from count round start pages) (let e = begins in sym e)
    ∙ so_far
  where
    grouped : (group more : List ℕ) → (out ++ group) ++ more ≡ out ++ (group ++ more)
    grouped group more = simp append_assoc

pub time_left : (round start time : ℕ) (page : DrawnPage) (others rest : List DrawnPage) → time ≡ page_time page → rest ≡ page ∷ others
    → start + round_of rest ≡ round → start + time + round_of others ≡ round
time_left round start time page others rest takes begins left =
    let first : round_of (page ∷ others) ≡ page_time page + round_of others = sum_by-cons page_time page others in
    let all : start + round_of (page ∷ others) ≡ round = ap (λ pages. start + round_of pages) (let e = begins in sym e) ∙ left in
    omega (arith, all, first, takes)
