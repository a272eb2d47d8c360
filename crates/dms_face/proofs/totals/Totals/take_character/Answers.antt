use Rattle.std.proofs.Common.{◌≡◌, Some, ap, sym, ◌∙◌}
use Rattle.dms_face.specs.Layout.{Layout, with_character}
use Rattle.dms_face.specs.Room.{blocks_fit}
use Rattle.dms_face.specs.OnePass.{room_fault, open_fits}
use Rattle.dms_face.specs.Totals.{Holds}
use Rattle.dms_face.proofs.Bools.{both}
use Rattle.dms_face.proofs.totals.Totals.take_character.Goals as goal

pub returns-then-open_fits : goal.returns-then-open_fits
returns-then-open_fits c =
    let face = c.args.face.now in
    let after : Layout → Layout = λ layout. with_character layout (Some c.args.glyph.now) in
    let fit : (layout : Layout) → Holds face c.args.self.now layout → c.open_fits.result ≡ open_fits face (after layout) = λ layout holds.
    c.open_fits.ensures.fit (after layout) (c.add_character-grown.ensures.matches layout holds.matches)
    (λ same. ap (blocks_fit face.height) (c.add_character-grown.ensures.same layout holds.matches same) ∙ holds.room) in
    record {
      fault = λ layout holds. ap room_fault (sym c.if-open_fits.true ∙ fit layout holds);
      holds = λ layout holds. record {
        matches = c.add_character-grown.ensures.matches layout holds.matches;
        room = (both _ _ (sym (fit layout holds) ∙ c.if-open_fits.true)).1;
      };
      small = c.add_character-grown.ensures.small (c.open_fits.ensures.within c.if-open_fits.true);
    }

pub returns-else-open_fits : goal.returns-else-open_fits
returns-else-open_fits c =
    let face = c.args.face.now in
    let after : Layout → Layout = λ layout. with_character layout (Some c.args.glyph.now) in
    let fit : (layout : Layout) → Holds face c.args.self.now layout → c.open_fits.result ≡ open_fits face (after layout) = λ layout holds.
    c.open_fits.ensures.fit (after layout) (c.add_character-grown.ensures.matches layout holds.matches)
    (λ same. ap (blocks_fit face.height) (c.add_character-grown.ensures.same layout holds.matches same) ∙ holds.room) in
    record {
      fault = λ layout holds. ap room_fault (sym c.if-open_fits.false ∙ fit layout holds);
      holds = λ layout holds. tt;
      small = tt;
    }
