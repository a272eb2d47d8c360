use Rattle.std.proofs.Common.{◌∷◌, ◌∙◌, arith}
use Rattle.dms_face_pages.proofs.OneWalk.{laid_starts, good_laid}
use Rattle.dms_face_pages.proofs.text_pages.laid_out.Goals as goal

pub loop-outcome-init : goal.loop-outcome-init
loop-outcome-init c =
    laid_starts _ _ _ _ _ c.requires.short c.new-totals.ensures.holds c.new-totals.ensures.small c.blank-layout.ensures
    (c.into_iter-outcome-iterator.ensures.into_iter_gives ∙ c.items-outcome-items.ensures.exact)

pub loop-outcome-preserved : goal.loop-outcome-preserved
loop-outcome-preserved c = grind arith

pub returns : goal.returns
returns c = good_laid _ _ _ _ _ _ _ _ c.loop-outcome.invariant c.in-None.ensures.steps.0 c.end_fault.ensures c.in_default-end_fault.is c.in_ok-close_page.ensures c.into_pages.ensures
