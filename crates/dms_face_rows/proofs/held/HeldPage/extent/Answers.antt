use Rattle.std.proofs.Common.{◌≡◌, ◌∙◌, ◌≤◌, ◌<◌, true, false, [], ◌∷◌, ◌++◌, map, filter, length, sym, ap, subst, arith}
use Rattle.std.proofs.lemmas.List.{take_all, length-map}
use Rattle.dms_face.specs.declared.room.Block.{Block}
use Rattle.dms_face.specs.Room.{is_at, extent, line_block}
use Rattle.dms_face.specs.Totals.{Sums}
use Rattle.dms_face_pages.specs.Drawing.{has_place}
use Rattle.dms_face_pages.proofs.PlacingLaws.{among, front_extent, at_place-map, sums_more_of}
use Rattle.dms_face_rows.specs.Held.{line_of, lines_of}
use Rattle.dms_face_rows.proofs.RowLaws.{next_line, among_same}
use Rattle.dms_face_rows.proofs.held.HeldPage.extent.Goals as goal

pub push-requires : goal.push-requires
push-requires c =
    omega (arith, front_extent line_block c.args.part c.loop-line.line-index (lines_of c.args.self.now), c.loop-line.invariant.size, c.requires.room)

pub loop-line-preserved-then-not-is_at : goal.loop-line-preserved-then-not-is_at
loop-line-preserved-then-not-is_at c =
    let characters = c.args.self.now.characters.items in
    let i = c.loop-line.line-index in
    let below : i < length c.as_slice-line-items.result.now = omega arith in
    let next = next_line characters c.as_slice-line-items.result.now c.args.self.now.lines.items i c.line-item.result c.as_slice-line-items.ensures.value below c.line-item.is in
    let x = line_of characters c.line-item.result in
    let not_here : has_place line_block c.args.part x ≡ false = sym (ap (is_at c.args.part) c.block-block.ensures) ∙ sym c.is_at.ensures ∙ c.if-not-is_at.true in
    subst (λ l. Sums c.loop-line.run (map line_block l)) (sym (among_same line_block c.args.part i (lines_of c.args.self.now) x next.0 next.1 not_here)) c.loop-line.invariant

pub loop-line-preserved : goal.loop-line-preserved
loop-line-preserved c =
    let characters = c.args.self.now.characters.items in
    let xs = lines_of c.args.self.now in
    let i = c.loop-line.line-index in
    let below : i < length c.as_slice-line-items.result.now = omega arith in
    let next = next_line characters c.as_slice-line-items.result.now c.args.self.now.lines.items i c.line-item.result c.as_slice-line-items.ensures.value below c.line-item.is in
    let x = line_of characters c.line-item.result in
    let front = map line_block (among line_block c.args.part i xs) in
    let here : has_place line_block c.args.part x ≡ true = sym (ap (is_at c.args.part) c.block-block.ensures) ∙ sym c.is_at.ensures ∙ c.if-not-is_at.false in
    let own = subst (λ (block : Block). Sums c.push.new.self (front ++ block ∷ [])) c.block-block.ensures (c.push.ensures.sums front c.loop-line.invariant) in
    sums_more_of line_block c.args.part i xs x c.push.new.self next.0 next.1 here own

pub returns : goal.returns
returns c =
    let xs = lines_of c.args.self.now in
    let same : length xs ≡ length c.as_slice-line-items.result.now = length-map c.args.self.now.lines.items (line_of c.args.self.now.characters.items) ∙ sym (ap length c.as_slice-line-items.ensures.value) in
    c.loop-line.invariant.size
    ∙ ap (λ front. extent (map line_block (filter (has_place line_block c.args.part) front))) (take_all c.loop-line.line-index xs (let e : length xs ≤ c.loop-line.line-index = omega (arith, same) in e))
    ∙ sym (ap extent (at_place-map line_block c.args.part xs))
