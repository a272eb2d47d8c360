use Rattle.std.proofs.Common.{take, map}
use Rattle.dms_face.specs.declared.justification.Place.TheVariants.{Start, Halfway, End}
use Rattle.dms_face.specs.Room.{at_place}
use Rattle.dms_face.specs.Totals.{Sums}
use Rattle.dms_face_pages.proofs.drawing.runs_of.Given as goal

abbrev pub invariant-loop-thing : goal.invariant-loop-thing
invariant-loop-thing g l =
    Sums l.runs.start (at_place Start (map g.T.Placed.block_of (take l.thing-index l.things)))
    × Sums l.runs.halfway (at_place Halfway (map g.T.Placed.block_of (take l.thing-index l.things)))
    × Sums l.runs.end (at_place End (map g.T.Placed.block_of (take l.thing-index l.things)))
