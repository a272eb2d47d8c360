use Rattle.std.proofs.Common.{◌≡◌, ◌∷◌, [], ◌∙◌, arith}
use Rattle.dms_face_times.proofs.TimeLaws.{finds_first, finds_step, finds_done}
use Rattle.dms_face_times.proofs.times.page_times.Goals as goal

pub loop-outcome-init : goal.loop-outcome-init
loop-outcome-init c =
    let none : c.new-pages.result.items ≡ [] = grind arith in
    finds_first _ _ _ _ _ none c.first-now.ensures (c.into_iter-outcome-iterator.ensures.into_iter_gives ∙ c.items-outcome-items.ensures.exact)

pub loop-outcome-preserved : goal.loop-outcome-preserved
loop-outcome-preserved c =
    finds_step _ _ _ _ _ _ _ _ _ _ c.loop-outcome.invariant c.in-Some.ensures.steps c.item_in-item.ensures c.next_pages.ensures c.next_times-now.ensures

pub returns-clause-pages : goal.returns-clause-pages
returns-clause-pages c = finds_done _ _ _ _ _ _ c.loop-outcome.invariant c.in-None.ensures.steps.0 c.push.ensures
