use Rattle.std.proofs.Common.{◌≡◌, ◌∙◌, ◌+◌, ◌-◌, ◌<◌, true, [], ◌∷◌, ◌++◌, get_or, length, map, sym, ap, subst, arith}
use Rattle.dms_face.specs.declared.room.Block.{Block}
use Rattle.dms_face.specs.Layout.{Character}
use Rattle.dms_face.specs.Room.{is_at, extent, placed_from, character_block}
use Rattle.dms_face.specs.Totals.{Sums}
use Rattle.dms_face.specs.Cells.{is_lit_by}
use Rattle.dms_face_pages.specs.Drawing.{has_place, placed_above, lit_cell}
use Rattle.dms_face_pages.proofs.PlacingLaws.{among, front_extent, last_fits, sums_more_of, placed_more}
use Rattle.dms_face_rows.specs.Drawing.{Lights, Shows}
use Rattle.dms_face_rows.proofs.RowLaws.{placed_at, shows_more}
use Rattle.dms_face_rows.proofs.drawing.draw_side.Goals as goal

pub push-requires : goal.push-requires
push-requires c =
    omega (arith, front_extent character_block c.args.side c.loop-character.character-index c.args.characters.now, c.loop-character.invariant.0.size, c.requires.room)

pub overflow_sub-x : goal.overflow_sub-x
overflow_sub-x c = grind (arith, among, last_fits)

pub loop-character-preserved : goal.loop-character-preserved
loop-character-preserved c =
    let xs = c.args.characters.now in
    let i = c.loop-character.character-index in
    let x = c.character-item.result in
    let front = map character_block (among character_block c.args.side i xs) in
    let sums = c.push.ensures.sums front c.loop-character.invariant.0 in
    let below : i < length xs = omega arith in
    let is : get_or xs i x ≡ x = sym c.character-item.is in
    let here : has_place character_block c.args.side x ≡ true = sym (ap (is_at c.args.side) c.block-block.ensures) ∙ sym c.is_at.ensures ∙ c.if-not-is_at.false in
    let own = subst (λ (block : Block). Sums c.push.new.self (front ++ block ∷ [])) c.block-block.ensures sums in
    let at = c.args.first + c.push.new.self.size - c.from.result in
    let at_is : at ≡ c.args.first + extent (front ++ character_block x ∷ []) - (character_block x).size =
    ap (λ n. c.args.first + c.push.new.self.size - n) (c.from.ensures ∙ ap (λ (block : Block). block.size) c.block-block.ensures)
    ∙ ap (λ n. c.args.first + n - (character_block x).size) own.size in
    let low : c.saturating_sub-top.result ≡ c.args.bottom - x.style.font.height =
    c.saturating_sub-top.ensures
    ∙ ap (λ n. c.args.bottom - n) (c.from-in-loop-character.ensures ∙ c.height.ensures.value ∙ ap (λ (it : Character). it.style.font.height) c.character.view_is) in
    let lights = subst (λ top. Lights (λ k. is_lit_by k c.args.y (placed_at at top x)) (lit_cell x.style) c.loop-character.cells c.draw_character.new.cells) low c.draw_character.ensures in (
      sums_more_of character_block c.args.side i xs x c.push.new.self below is here own,
      λ page before shows.
          subst (λ l. Shows page c.args.y l c.draw_character.new.cells)
          (placed_more character_block c.args.side i xs x (placed_above c.args.bottom) c.args.first at before below is here at_is)
          (shows_more page c.args.y (before ++ map (placed_above c.args.bottom) (placed_from character_block c.args.first (among character_block c.args.side i xs)))
          (placed_above c.args.bottom (at, x)) c.loop-character.cells c.draw_character.new.cells (c.loop-character.invariant.1 page before shows) lights),
      c.draw_character.ensures.len ∙ c.loop-character.invariant.2,
    )
