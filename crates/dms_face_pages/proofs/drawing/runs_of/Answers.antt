use Rattle.std.proofs.Common.{◌≡◌, ◌∙◌, ◌+◌, ◌<◌, ◌≤◌, [], ◌∷◌, ◌++◌, get_or, take, map, length, sym, ap, subst, arith}
use Rattle.std.proofs.lemmas.List.{take_all}
use Rattle.dms_face.specs.declared.justification.Place.TheVariants.{Start, Halfway, End}
use Rattle.dms_face.specs.Room.{at_place}
use Rattle.dms_face.specs.Totals.{Sums}
use Rattle.dms_face_pages.proofs.PlacingLaws.{first_extent, blocks_more}
use Rattle.dms_face_pages.proofs.drawing.runs_of.Goals as goal

pub push-requires-clause-start : goal.push-requires-clause-start
push-requires-clause-start g c =
    omega (arith, first_extent g.T.Placed.block_of Start c.loop-thing.thing-index c.args.things.now, c.loop-thing.invariant.0.size, c.requires.start)

pub push-requires-clause-halfway : goal.push-requires-clause-halfway
push-requires-clause-halfway g c =
    omega (arith, first_extent g.T.Placed.block_of Halfway c.loop-thing.thing-index c.args.things.now, c.loop-thing.invariant.1.size, c.requires.halfway)

pub push-requires-clause-end : goal.push-requires-clause-end
push-requires-clause-end g c =
    omega (arith, first_extent g.T.Placed.block_of End c.loop-thing.thing-index c.args.things.now, c.loop-thing.invariant.2.size, c.requires.end)

pub loop-thing-preserved : goal.loop-thing-preserved
loop-thing-preserved g c =
    let block = g.T.Placed.block_of in
    let xs = c.args.things.now in
    let i = c.loop-thing.thing-index in
    let x = c.thing-item.result in
    let below : i < length xs = omega arith in
    let is : get_or xs i x ≡ x = sym c.thing-item.is in
    let more : map block (take i xs) ++ c.block.result ∷ [] ≡ map block (take (i + 1) xs) =
    ap (λ b. map block (take i xs) ++ b ∷ []) c.block.ensures ∙ sym (blocks_more block i xs x below is) in (
      subst (λ bs. Sums c.push.new.self.start (at_place Start bs)) more (c.push.ensures.start (map block (take i xs)) c.loop-thing.invariant.0),
      subst (λ bs. Sums c.push.new.self.halfway (at_place Halfway bs)) more (c.push.ensures.halfway (map block (take i xs)) c.loop-thing.invariant.1),
      subst (λ bs. Sums c.push.new.self.end (at_place End bs)) more (c.push.ensures.end (map block (take i xs)) c.loop-thing.invariant.2),
    )

pub returns : goal.returns
returns g c =
    let block = g.T.Placed.block_of in
    let xs = c.args.things.now in
    let all : map block (take c.loop-thing.thing-index xs) ≡ map block xs =
    ap (map block) (take_all c.loop-thing.thing-index xs (let e : length xs ≤ c.loop-thing.thing-index = omega arith in e)) in record {
      start = subst (λ bs. Sums c.loop-thing.runs.start (at_place Start bs)) all c.loop-thing.invariant.0;
      halfway = subst (λ bs. Sums c.loop-thing.runs.halfway (at_place Halfway bs)) all c.loop-thing.invariant.1;
      end = subst (λ bs. Sums c.loop-thing.runs.end (at_place End bs)) all c.loop-thing.invariant.2;
    }
