use Rattle.std.proofs.Common.{◌∙◌, ◌++◌, filter, map, ap, subst}
use Rattle.std.specs.List.{flat_map}
use Rattle.dms_face.specs.Room.{begin, extent_at, placed_from, line_block}
use Rattle.dms_face.specs.Cells.{placed_in_line}
use Rattle.dms_face_pages.specs.Drawing.{has_place, Shows}
use Rattle.dms_face_pages.proofs.PlacingLaws.{nothing_placed_of}
use Rattle.dms_face_pages.proofs.drawing.draw_lines_run.Goals as goal

pub returns-then-not-run-clause-cells : goal.returns-then-not-run-clause-cells
returns-then-not-run-clause-cells c = λ page before shows.
    let face = c.args.face.now in
    let lines = c.args.lines.now in
    let first = begin c.args.part face.height (extent_at c.args.part (map line_block lines)) in
    subst (λ l. Shows face page l c.args.cells.now.cells) (nothing_placed_of (placed_in_line face) line_block c.args.part first lines c.args.run before c.requires.run c.if-not-run.true) shows

pub returns-clause-cells : goal.returns-clause-cells
returns-clause-cells c = λ page before shows.
    let face = c.args.face.now in
    let lines = c.args.lines.now in
    subst (λ n. Shows face page (before ++ flat_map (placed_in_line face) (placed_from line_block n (filter (has_place line_block c.args.part) lines))) c.draw_part.new.cells.cells)
    (c.begin-first.ensures.begin ∙ ap (λ n. begin c.args.part n c.args.run.size) (c.from.ensures ∙ c.height.ensures.value) ∙ ap (begin c.args.part face.height) c.requires.run.size)
    (c.draw_part.ensures.cells page before shows)
