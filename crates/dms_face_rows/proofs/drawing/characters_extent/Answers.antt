use Rattle.std.proofs.Common.{◌∙◌, ◌≤◌, map, filter, length, sym, ap, arith}
use Rattle.std.proofs.lemmas.List.{take_all}
use Rattle.dms_face.specs.Room.{extent, character_block}
use Rattle.dms_face_pages.specs.Drawing.{has_place}
use Rattle.dms_face_pages.proofs.PlacingLaws.{front_extent, at_place-map}
use Rattle.dms_face_rows.proofs.drawing.characters_extent.Goals as goal

pub push-requires : goal.push-requires
push-requires c =
    omega (arith, front_extent character_block c.args.place c.loop-character.character-index c.args.characters.now, c.loop-character.invariant.size, c.requires)

pub returns : goal.returns
returns c =
    let xs = c.args.characters.now in
    c.loop-character.invariant.size
    ∙ ap (λ front. extent (map character_block (filter (has_place character_block c.args.place) front))) (take_all c.loop-character.character-index xs (let e : length xs ≤ c.loop-character.character-index = omega arith in e))
    ∙ sym (ap extent (at_place-map character_block c.args.place xs))
