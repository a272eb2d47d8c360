use Rattle.std.proofs.Common.{◌∙◌}
use Rattle.dms_face_rows.proofs.PageLaws.{lays_first}
use Rattle.dms_face_rows.proofs.held.HeldPage.add_items.Goals as goal

pub loop-outcome-init : goal.loop-outcome-init
loop-outcome-init c =
    lays_first _ _ _ _ _ c.requires.short c.requires.held c.requires.blank (c.into_iter-outcome-iterator.ensures.into_iter_gives ∙ c.items-outcome-items.ensures.exact)
