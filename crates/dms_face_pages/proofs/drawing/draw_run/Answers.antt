use Rattle.std.proofs.Common.{◌∙◌, ◌++◌, filter, map, ap, subst}
use Rattle.dms_face.specs.Room.{begin, extent_at, placed_from, character_block}
use Rattle.dms_face_pages.specs.Drawing.{has_place, placed_above, Shows}
use Rattle.dms_face_pages.proofs.PlacingLaws.{nothing_placed}
use Rattle.dms_face_pages.proofs.drawing.draw_run.Goals as goal

pub returns-then-not-run-clause-cells : goal.returns-then-not-run-clause-cells
returns-then-not-run-clause-cells c = λ page before shows.
    let face = c.args.face.now in
    let characters = c.args.characters.now in
    let first = begin c.args.side face.width (extent_at c.args.side (map character_block characters)) in
    subst (λ l. Shows face page l c.args.cells.now.cells)
    (nothing_placed (placed_above c.args.bottom) character_block c.args.side first characters c.args.run before c.requires.run c.if-not-run.true) shows

pub returns-clause-cells : goal.returns-clause-cells
returns-clause-cells c = λ page before shows.
    let face = c.args.face.now in
    let characters = c.args.characters.now in
    subst (λ n. Shows face page (before ++ map (placed_above c.args.bottom) (placed_from character_block n (filter (has_place character_block c.args.side) characters))) c.draw_side.new.cells.cells)
    (c.begin-first.ensures.begin ∙ ap (λ n. begin c.args.side n c.args.run.size) (c.from.ensures ∙ c.width.ensures.value) ∙ ap (begin c.args.side face.width) c.requires.run.size)
    (c.draw_side.ensures.cells page before shows)
