use Rattle.std.proofs.Common.{◌≡◌, ◌∙◌, ◌+◌, ◌-◌, ◌<◌, true, [], ◌∷◌, ◌++◌, get_or, length, map, sym, ap, subst, arith}
use Rattle.std.specs.List.{flat_map}
use Rattle.dms_face.specs.declared.room.Block.{Block}
use Rattle.dms_face.specs.Room.{is_at, extent, placed_from, line_block}
use Rattle.dms_face.specs.Totals.{Sums}
use Rattle.dms_face.specs.Cells.{placed_in_line}
use Rattle.dms_face_pages.specs.Drawing.{has_place, Shows}
use Rattle.dms_face_pages.proofs.PlacingLaws.{among, front_extent, last_fits, sums_more_of, placed_more_of, all_at}
use Rattle.dms_face_pages.proofs.drawing.draw_part.Goals as goal

pub push-requires : goal.push-requires
push-requires c =
    omega (arith, front_extent line_block c.args.part c.loop-line.line-index c.args.lines.now, c.loop-line.invariant.0.size, c.requires.room)

pub overflow_sub-first : goal.overflow_sub-first
overflow_sub-first c = grind (arith, among, last_fits)

pub draw_line-requires : goal.draw_line-requires
draw_line-requires c = grind (arith, all_at)

pub loop-line-preserved : goal.loop-line-preserved
loop-line-preserved c =
    let xs = c.args.lines.now in
    let i = c.loop-line.line-index in
    let x = c.line-item.result in
    let front = map line_block (among line_block c.args.part i xs) in
    let sums = c.push.ensures.sums front c.loop-line.invariant.0 in
    let below : i < length xs = omega arith in
    let is : get_or xs i x ≡ x = sym c.line-item.is in
    let here : has_place line_block c.args.part x ≡ true = sym (ap (is_at c.args.part) c.block-block.ensures) ∙ sym c.is_at.ensures ∙ c.if-not-is_at.false in
    let own = subst (λ (block : Block). Sums c.push.new.self (front ++ block ∷ [])) c.block-block.ensures sums in
    let at = c.args.first + c.push.new.self.size - c.from.result in
    let at_is : at ≡ c.args.first + extent (front ++ line_block x ∷ []) - (line_block x).size =
    ap (λ n. c.args.first + c.push.new.self.size - n) (c.from.ensures ∙ ap (λ (block : Block). block.size) c.block-block.ensures)
    ∙ ap (λ n. c.args.first + n - (line_block x).size) own.size in
    let face = c.args.face.now in (
      sums_more_of line_block c.args.part i xs x c.push.new.self below is here own,
      λ page before shows.
          subst (λ l. Shows face page l c.draw_line.new.cells.cells)
          (placed_more_of line_block c.args.part i xs x (placed_in_line face) c.args.first at before below is here at_is)
          (c.draw_line.ensures.cells page (before ++ flat_map (placed_in_line face) (placed_from line_block c.args.first (among line_block c.args.part i xs))) (c.loop-line.invariant.1 page before shows)),
      c.draw_line.ensures.len ∙ c.loop-line.invariant.2,
      c.draw_line.ensures.styles ∙ c.loop-line.invariant.3,
    )
