use Rattle.std.proofs.Common.{map, refl, subst, arith}
use Rattle.dms_face.specs.declared.justification.Place.TheVariants.{Start, Halfway, End}
use Rattle.dms_face.specs.Room.{begin, extent_at, line_block}
use Rattle.dms_face_pages.specs.Drawing.{Shows}
use Rattle.dms_face_pages.proofs.PlacingLaws.{lines_are, lines_within}
use Rattle.dms_face_pages.proofs.drawing.draw_lines.Goals as goal

pub runs_of-runs-requires-clause-start : goal.runs_of-runs-requires-clause-start
runs_of-runs-requires-clause-start c =
    omega (arith, c.requires.high, lines_within Start c.args.face.now c.args.lines.now c.requires.room)

pub runs_of-runs-requires-clause-halfway : goal.runs_of-runs-requires-clause-halfway
runs_of-runs-requires-clause-halfway c =
    omega (arith, c.requires.high, lines_within Halfway c.args.face.now c.args.lines.now c.requires.room)

pub runs_of-runs-requires-clause-end : goal.runs_of-runs-requires-clause-end
runs_of-runs-requires-clause-end c =
    omega (arith, c.requires.high, lines_within End c.args.face.now c.args.lines.now c.requires.room)

pub draw_lines_run-requires-clause-room : goal.draw_lines_run-requires-clause-room
draw_lines_run-requires-clause-room c = lines_within Start c.args.face.now c.args.lines.now c.requires.room

pub draw_lines_run-requires-2-clause-room : goal.draw_lines_run-requires-2-clause-room
draw_lines_run-requires-2-clause-room c = lines_within Halfway c.args.face.now c.args.lines.now c.requires.room

pub draw_lines_run-requires-3-clause-room : goal.draw_lines_run-requires-3-clause-room
draw_lines_run-requires-3-clause-room c = lines_within End c.args.face.now c.args.lines.now c.requires.room

pub returns-clause-cells : goal.returns-clause-cells
returns-clause-cells c = λ page before shows.
    let face = c.args.face.now in
    let lines = c.args.lines.now in
    let top = begin Start face.height (extent_at Start (map line_block lines)) in
    let middle = begin Halfway face.height (extent_at Halfway (map line_block lines)) in
    let bottom = begin End face.height (extent_at End (map line_block lines)) in
    subst (λ l. Shows face page l c.draw_lines_run-3.new.cells.cells) (lines_are face lines top middle bottom before refl refl refl)
    (c.draw_lines_run-3.ensures.cells page _ (c.draw_lines_run-2.ensures.cells page _ (c.draw_lines_run.ensures.cells page before shows)))
