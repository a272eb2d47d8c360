use Rattle.std.proofs.Common.{[], sym, ◌∙◌, arith}
use Rattle.dms_face.specs.Totals.{AreSmall}
use Rattle.dms_face.proofs.RoomLaws.{nothing_fits}
use Rattle.dms_face.proofs.MatchLaws.{page_matches, page_passes}
use Rattle.dms_face.proofs.totals.Totals.take_page.Goals as goal

pub returns : goal.returns
returns c =
    let small : AreSmall c.open_line.new.self = c.open_line.ensures.small c.requires.pages c.empty-self.ensures.within in
    record {
      fault = λ layout holds. page_passes c.args.face.now c.args.self.now layout holds.matches (sym (c.closed_fits.ensures layout holds.matches) ∙ c.if-not-closed_fits.false) (omega arith);
      holds = λ layout holds. record { matches = page_matches _ layout (c.open_line.ensures.matches c.args.self.now.lines layout [] holds.matches c.empty-self.ensures.matches); room = nothing_fits c.args.face.now.height };
      small = record { pages = omega (arith, c.open_line.ensures.same); lines = small.lines; characters = small.characters };
    }
