use Rattle.std.proofs.Common.{◌≡◌, ◌∙◌, ◌+◌, ◌-◌, ◌/◌, ◌%◌, ◌<◌, ◌≤◌, true, [], ◌∷◌, ◌++◌, get_or, length, map, sym, ap, subst, arith}
use Rattle.std.specs.Prelude.{slice_index_or}
use Rattle.dms_face.specs.declared.room.Block.{Block}
use Rattle.dms_face.specs.Layout.{Character}
use Rattle.dms_face.specs.Room.{is_at, extent, extent_at, placed_from, character_block}
use Rattle.dms_face.specs.Totals.{Sums}
use Rattle.dms_face.specs.Cells.{PlacedCharacter, is_lit_by}
use Rattle.dms_face_pages.specs.Drawing.{has_place, placed_above, covered, lit_cell, Shows}
use Rattle.dms_face_pages.proofs.PlacingLaws.{among, front_extent, last_fits, sums_more_of, placed_more, all_at}
use Rattle.dms_face_pages.proofs.DrawingLaws.{shows_more}
use Rattle.dms_face_pages.proofs.drawing.draw_side.Goals as goal

pub push-requires : goal.push-requires
push-requires c =
    omega (arith, front_extent character_block c.args.side c.loop-character.character-index c.args.characters.now, c.loop-character.invariant.0.size, c.requires.room)

pub overflow_sub-x : goal.overflow_sub-x
overflow_sub-x c = grind (arith, among, last_fits)

pub loop-character-preserved : goal.loop-character-preserved
loop-character-preserved c =
    let xs = c.args.characters.now in
    let i = c.loop-character.character-index in
    let x = c.character-item.result in
    let front = map character_block (among character_block c.args.side i xs) in
    let sums = c.push.ensures.sums front c.loop-character.invariant.0 in
    let below : i < length xs = omega arith in
    let is : get_or xs i x ≡ x = sym c.character-item.is in
    let here : has_place character_block c.args.side x ≡ true = sym (ap (is_at c.args.side) c.block-block.ensures) ∙ sym c.is_at.ensures ∙ c.if-not-is_at.false in
    let own = subst (λ (block : Block). Sums c.push.new.self (front ++ block ∷ [])) c.block-block.ensures sums in
    let at = c.args.first + c.push.new.self.size - c.from.result in
    let at_is : at ≡ c.args.first + extent (front ++ character_block x ∷ []) - (character_block x).size =
    ap (λ n. c.args.first + c.push.new.self.size - n) (c.from.ensures ∙ ap (λ (block : Block). block.size) c.block-block.ensures)
    ∙ ap (λ n. c.args.first + n - (character_block x).size) own.size in
    let low : c.saturating_sub-y.result ≡ c.args.bottom - x.style.font.height =
    c.saturating_sub-y.ensures
    ∙ ap (λ n. c.args.bottom - n) (c.from-in-loop-character.ensures ∙ c.height.ensures.value ∙ ap (λ (it : Character). it.style.font.height) c.character.view_is) in
    let face = c.args.face.now in
    let long : length c.draw_character.new.cells.cells ≡ length c.loop-character.cells.cells = c.draw_character.ensures.len in (
      sums_more_of character_block c.args.side i xs x c.push.new.self below is here own,
      λ page before shows.
          subst (λ l. Shows face page l c.draw_character.new.cells.cells)
          (placed_more character_block c.args.side i xs x (placed_above c.args.bottom) c.args.first at before below is here at_is)
          (shows_more face page (before ++ map (placed_above c.args.bottom) (placed_from character_block c.args.first (among character_block c.args.side i xs)))
          (placed_above c.args.bottom (at, x)) c.loop-character.cells.cells c.draw_character.new.cells.cells long (c.loop-character.invariant.1 page before shows)
          (λ other place inside.
          c.draw_character.ensures.cells other place inside
          ∙ ap (λ y. covered (is_lit_by (place % face.width) (place / face.width) (let placed : PlacedCharacter = record { x = at; y = y; character = x } in placed)) (lit_cell x.style)
          (slice_index_or c.loop-character.cells.cells place other)) low)),
      long ∙ c.loop-character.invariant.2,
      c.draw_character.ensures.styles ∙ c.loop-character.invariant.3,
    )

pub draw_character-requires-clause-matrix : goal.draw_character-requires-clause-matrix
draw_character-requires-clause-matrix c = c.loop-character.invariant.2 ∙ c.requires.matrix

pub draw_character-requires-clause-style : goal.draw_character-requires-clause-style
draw_character-requires-clause-style c = grind (arith, all_at)

pub draw_character-requires-clause-inside : goal.draw_character-requires-clause-inside
draw_character-requires-clause-inside c =
    let xs = c.args.characters.now in
    let i = c.loop-character.character-index in
    let x = c.character-item.result in
    let front = map character_block (among character_block c.args.side i xs) in
    let below : i < length xs = omega arith in
    let is : get_or xs i x ≡ x = sym c.character-item.is in
    let here : has_place character_block c.args.side x ≡ true = sym (ap (is_at c.args.side) c.block-block.ensures) ∙ sym c.is_at.ensures ∙ c.if-not-is_at.false in
    let own = subst (λ (block : Block). Sums c.push.new.self (front ++ block ∷ [])) c.block-block.ensures (c.push.ensures.sums front c.loop-character.invariant.0) in
    let more = sums_more_of character_block c.args.side i xs x c.push.new.self below is here own in
    let size : c.from.result ≡ x.glyph.width = c.from.ensures ∙ ap (λ (block : Block). block.size) c.block-block.ensures in
    let last : x.glyph.width ≤ c.push.new.self.size = omega (arith, last_fits front (character_block x), own.size) in
    let all : c.push.new.self.size ≤ extent_at c.args.side (map character_block xs) = omega (arith, front_extent character_block c.args.side (i + 1) xs, more.size) in
    omega (arith, size, last, all, c.requires.inside)
