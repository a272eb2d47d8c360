use Rattle.std.proofs.Common.{◌≡◌, true, false, map, sym, ap, subst, ◌∙◌, arith}
use Rattle.dms_face.specs.declared.totals.Totals.{Totals}
use Rattle.dms_face.specs.Justification.{place_of_part, same_part}
use Rattle.dms_face.specs.Layout.{Layout, closed}
use Rattle.dms_face.specs.Room.{blocks_fit, line_block, lines_fit}
use Rattle.dms_face.specs.Fit.{is_taken}
use Rattle.dms_face.specs.Totals.{Matches, Holds, AreSmall}
use Rattle.dms_face.proofs.MatchLaws.{part_passes, part_holds}
use Rattle.dms_face.proofs.totals.Totals.take_part.Goals as goal

pub returns : goal.returns
returns c =
    let face = c.args.face.now in
    let before = c.args.self.now in
    let part = c.args.part in
    let apart : (layout : Layout) → Holds face before layout → same_part part layout.style.part ≡ false = λ layout holds.
    ap (same_part part) (sym holds.matches.part) ∙ sym c.is.ensures ∙ c.if-is.false in
    let free : (layout : Layout) → Holds face before layout → is_taken (place_of_part part) (map line_block (closed layout)) ≡ false = λ layout holds.
    sym (c.is_taken.ensures (map line_block (closed layout)) (c.close_part.ensures.matches layout holds.matches)) ∙ c.if-is_taken.false in
    let room : (layout : Layout) → Holds face before layout → lines_fit face (closed layout) ≡ true = λ layout holds.
    ap (λ whole. blocks_fit whole (map line_block (closed layout))) (sym (c.from.ensures ∙ c.height.ensures.value))
    ∙ sym (c.fit.ensures.fit (map line_block (closed layout)) (c.close_part.ensures.matches layout holds.matches)) ∙ c.if-not-fit.false in
    let small : AreSmall c.open_line.new.self =
    c.open_line.ensures.small (omega (arith, ap (λ (totals : Totals). totals.pages) c.close_part.ensures.same, c.requires.pages)) (c.fit.ensures.within c.if-not-fit.false) in
    record {
      fault = λ layout holds. part_passes face layout part (apart layout holds) (free layout holds) (room layout holds);
      holds = λ layout holds. part_holds face c.open_line.new.self layout part (apart layout holds) (
          c.open_line.ensures.matches before.lines layout (closed layout)
          (subst (λ totals. Matches totals layout) c.close_part.ensures.same holds.matches) (c.close_part.ensures.matches layout holds.matches)
          ) (room layout holds);
      small = record { pages = small.pages; lines = small.lines; characters = small.characters };
    }
