use Rattle.std.proofs.Common.{◌≡◌, ◌∙◌, ◌+◌, ◌-◌, ◌<◌, ◌≤◌, true, false, [], ◌∷◌, ◌++◌, filter, length, map, sym, ap, subst, arith}
use Rattle.std.specs.List.{flat_map}
use Rattle.std.proofs.lemmas.List.{take_all, length-map}
use Rattle.dms_face.specs.declared.room.Block.{Block}
use Rattle.dms_face.specs.Layout.{Line}
use Rattle.dms_face.specs.Room.{is_at, extent, placed_from, line_block, characters_fit}
use Rattle.dms_face.specs.Totals.{Sums}
use Rattle.dms_face.specs.Cells.{placed_in_line}
use Rattle.dms_face_pages.specs.Drawing.{has_place}
use Rattle.dms_face_pages.proofs.PlacingLaws.{among, front_extent, last_fits, sums_more_of, placed_more_of, all_at}
use Rattle.dms_face_rows.specs.Held.{line_of, lines_of}
use Rattle.dms_face_rows.specs.Drawing.{Shows}
use Rattle.dms_face_rows.proofs.RowLaws.{next_line, among_same}
use Rattle.dms_face_rows.proofs.held.HeldPage.draw_part.Goals as goal

pub push-requires : goal.push-requires
push-requires c =
    omega (arith, front_extent line_block c.args.part c.loop-line.line-index (lines_of c.args.self.now), c.loop-line.invariant.0.size, c.requires.room)

pub overflow_sub-first : goal.overflow_sub-first
overflow_sub-first c =
    let front = map line_block (among line_block c.args.part c.loop-line.line-index (lines_of c.args.self.now)) in
    let sums = c.push.ensures.sums front c.loop-line.invariant.0 in
    omega (arith, sums.size, last_fits front c.block-block.result, c.from.ensures)

pub draw_line-requires-clause-room : goal.draw_line-requires-clause-room
draw_line-requires-clause-room c =
    let characters = c.args.self.now.characters.items in
    let i = c.loop-line.line-index in
    let below : i < length c.as_slice-line-items.result.now = omega arith in
    let next = next_line characters c.as_slice-line-items.result.now c.args.self.now.lines.items i c.line-item.result c.as_slice-line-items.ensures.value below c.line-item.is in
    all_at (λ (line : Line). characters_fit c.args.face.now line.characters) (lines_of c.args.self.now) i (line_of characters c.line-item.result) next.0 next.1 c.requires.lines

pub loop-line-preserved-then-not-is_at : goal.loop-line-preserved-then-not-is_at
loop-line-preserved-then-not-is_at c =
    let characters = c.args.self.now.characters.items in
    let i = c.loop-line.line-index in
    let below : i < length c.as_slice-line-items.result.now = omega arith in
    let next = next_line characters c.as_slice-line-items.result.now c.args.self.now.lines.items i c.line-item.result c.as_slice-line-items.ensures.value below c.line-item.is in
    let x = line_of characters c.line-item.result in
    let not_here : has_place line_block c.args.part x ≡ false = sym (ap (is_at c.args.part) c.block-block.ensures) ∙ sym c.is_at.ensures ∙ c.if-not-is_at.true in
    let same = sym (among_same line_block c.args.part i (lines_of c.args.self.now) x next.0 next.1 not_here) in (
      subst (λ l. Sums c.loop-line.run (map line_block l)) same c.loop-line.invariant.0,
      λ page before shows.
          subst (λ l. Shows page c.args.y (before ++ flat_map (placed_in_line c.args.face.now) (placed_from line_block c.args.first l)) c.loop-line.cells) same
          (c.loop-line.invariant.1 page before shows),
      c.loop-line.invariant.2,
    )

pub loop-line-preserved : goal.loop-line-preserved
loop-line-preserved c =
    let characters = c.args.self.now.characters.items in
    let xs = lines_of c.args.self.now in
    let i = c.loop-line.line-index in
    let below : i < length c.as_slice-line-items.result.now = omega arith in
    let next = next_line characters c.as_slice-line-items.result.now c.args.self.now.lines.items i c.line-item.result c.as_slice-line-items.ensures.value below c.line-item.is in
    let x = line_of characters c.line-item.result in
    let front = map line_block (among line_block c.args.part i xs) in
    let here : has_place line_block c.args.part x ≡ true = sym (ap (is_at c.args.part) c.block-block.ensures) ∙ sym c.is_at.ensures ∙ c.if-not-is_at.false in
    let own = subst (λ (block : Block). Sums c.push.new.self (front ++ block ∷ [])) c.block-block.ensures (c.push.ensures.sums front c.loop-line.invariant.0) in
    let at = c.args.first + c.push.new.self.size - c.from.result in
    let at_is : at ≡ c.args.first + extent (front ++ line_block x ∷ []) - (line_block x).size =
    ap (λ n. c.args.first + c.push.new.self.size - n) (c.from.ensures ∙ ap (λ (block : Block). block.size) c.block-block.ensures)
    ∙ ap (λ n. c.args.first + n - (line_block x).size) own.size in
    let face = c.args.face.now in (
      sums_more_of line_block c.args.part i xs x c.push.new.self next.0 next.1 here own,
      λ page before shows.
          subst (λ l. Shows page c.args.y l c.draw_line.new.cells)
          (placed_more_of line_block c.args.part i xs x (placed_in_line face) c.args.first at before next.0 next.1 here at_is)
          (c.draw_line.ensures.cells page (before ++ flat_map (placed_in_line face) (placed_from line_block c.args.first (among line_block c.args.part i xs))) (c.loop-line.invariant.1 page before shows)),
      c.draw_line.ensures.len ∙ c.loop-line.invariant.2,
    )

pub returns-clause-cells : goal.returns-clause-cells
returns-clause-cells c = λ page before shows.
    let xs = lines_of c.args.self.now in
    let same : length xs ≡ length c.as_slice-line-items.result.now = length-map c.args.self.now.lines.items (line_of c.args.self.now.characters.items) ∙ sym (ap length c.as_slice-line-items.ensures.value) in
    subst (λ front. Shows page c.args.y (before ++ flat_map (placed_in_line c.args.face.now) (placed_from line_block c.args.first (filter (has_place line_block c.args.part) front))) c.loop-line.cells)
    (take_all c.loop-line.line-index xs (let e : length xs ≤ c.loop-line.line-index = omega (arith, same) in e))
    (c.loop-line.invariant.1 page before shows)
