use Rattle.std.proofs.Common.{◌≡◌, true, List, [], ◌∷◌, ◌++◌, map, sym, ap, subst, ◌∙◌, arith}
use Rattle.dms_face.specs.declared.totals.Totals.{Totals}
use Rattle.dms_face.specs.Layout.{Layout, Line, open_line}
use Rattle.dms_face.specs.Room.{blocks_fit, line_block, lines_fit}
use Rattle.dms_face.specs.OnePass.{room_fault}
use Rattle.dms_face.specs.Totals.{Matches, Holds}
use Rattle.dms_face.proofs.totals.Totals.take_line.Goals as goal

pub returns : goal.returns
returns c =
    let face = c.args.face.now in
    let before = c.args.self.now in
    let lines : Layout → List Line = λ layout. layout.lines ++ open_line layout ∷ [] in
    let room : (layout : Layout) → Holds face before layout → lines_fit face (lines layout) ≡ true = λ layout holds.
    ap (λ whole. blocks_fit whole (map line_block (lines layout))) (sym (c.from.ensures ∙ c.height.ensures.value))
    ∙ sym (c.fit.ensures.fit (map line_block (lines layout)) (c.close_line.ensures.matches layout holds.matches)) ∙ c.if-not-fit.false in
    record {
      fault = λ layout holds. ap room_fault (sym (room layout holds));
      holds = λ layout holds. record {
        matches =
            c.open_line.ensures.matches before.lines layout (lines layout)
            (subst (λ totals. Matches totals layout) c.close_line.ensures.same holds.matches) (c.close_line.ensures.matches layout holds.matches);
        room = room layout holds;
      };
      small = c.open_line.ensures.small (omega (arith, ap (λ (totals : Totals). totals.pages) c.close_line.ensures.same, c.requires.pages)) (c.fit.ensures.within c.if-not-fit.false);
    }
