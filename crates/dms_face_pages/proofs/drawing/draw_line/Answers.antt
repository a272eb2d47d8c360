use Rattle.std.proofs.Common.{◌∙◌, ◌+◌, map, refl, ap, subst, arith}
use Rattle.dms_face.specs.declared.justification.Place.TheVariants.{Start, Halfway, End}
use Rattle.dms_face.specs.Layout.{Line}
use Rattle.dms_face.specs.Room.{begin, extent_at, character_block}
use Rattle.dms_face_pages.specs.Drawing.{Shows}
use Rattle.dms_face_pages.proofs.PlacingLaws.{line_is, characters_within}
use Rattle.dms_face_pages.proofs.drawing.draw_line.Goals as goal

pub runs_of-runs-requires-clause-start : goal.runs_of-runs-requires-clause-start
runs_of-runs-requires-clause-start c =
    omega (arith, c.requires.wide, characters_within Start c.args.face.now c.args.line.now c.as_slice-characters.result.now (c.as_slice-characters.ensures.value ∙ ap (λ (line : Line). line.characters) c.line.view_is) c.requires.room)

pub runs_of-runs-requires-clause-halfway : goal.runs_of-runs-requires-clause-halfway
runs_of-runs-requires-clause-halfway c =
    omega (arith, c.requires.wide, characters_within Halfway c.args.face.now c.args.line.now c.as_slice-characters.result.now (c.as_slice-characters.ensures.value ∙ ap (λ (line : Line). line.characters) c.line.view_is) c.requires.room)

pub runs_of-runs-requires-clause-end : goal.runs_of-runs-requires-clause-end
runs_of-runs-requires-clause-end c =
    omega (arith, c.requires.wide, characters_within End c.args.face.now c.args.line.now c.as_slice-characters.result.now (c.as_slice-characters.ensures.value ∙ ap (λ (line : Line). line.characters) c.line.view_is) c.requires.room)

pub draw_run-requires-clause-room : goal.draw_run-requires-clause-room
draw_run-requires-clause-room c =
    characters_within Start c.args.face.now c.args.line.now c.as_slice-characters.result.now
    (c.as_slice-characters.ensures.value ∙ ap (λ (line : Line). line.characters) c.line.view_is) c.requires.room

pub draw_run-requires-2-clause-room : goal.draw_run-requires-2-clause-room
draw_run-requires-2-clause-room c =
    characters_within Halfway c.args.face.now c.args.line.now c.as_slice-characters.result.now
    (c.as_slice-characters.ensures.value ∙ ap (λ (line : Line). line.characters) c.line.view_is) c.requires.room

pub draw_run-requires-3-clause-room : goal.draw_run-requires-3-clause-room
draw_run-requires-3-clause-room c =
    characters_within End c.args.face.now c.args.line.now c.as_slice-characters.result.now
    (c.as_slice-characters.ensures.value ∙ ap (λ (line : Line). line.characters) c.line.view_is) c.requires.room

pub returns-clause-cells : goal.returns-clause-cells
returns-clause-cells c = λ page before shows.
    let face = c.args.face.now in
    let characters = c.as_slice-characters.result.now in
    let left = begin Start face.width (extent_at Start (map character_block characters)) in
    let centre = begin Halfway face.width (extent_at Halfway (map character_block characters)) in
    let right = begin End face.width (extent_at End (map character_block characters)) in
    subst (λ l. Shows face page l c.draw_run-3.new.cells.cells)
    (line_is face c.args.top c.args.line.now characters left centre right (c.args.top + c.from.result) before
    (c.as_slice-characters.ensures.value ∙ ap (λ (line : Line). line.characters) c.line.view_is) refl refl refl (ap (λ n. c.args.top + n) (c.from.ensures ∙ c.height.ensures)))
    (c.draw_run-3.ensures.cells page _ (c.draw_run-2.ensures.cells page _ (c.draw_run.ensures.cells page before shows)))
