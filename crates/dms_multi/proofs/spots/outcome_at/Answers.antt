use Rattle.std.proofs.Common.{◌<◌, length, sym, arith}
use Rattle.std.proofs.lemmas.Bool.{eqb-true}
use Rattle.std.proofs.lemmas.Bool.Decides.{nat_tests}
use Rattle.dms_multi.specs.Outcomes.{outcomes_within}
use Rattle.dms_multi.proofs.Readings.{shorter}
use Rattle.dms_multi.proofs.Walk.{outcomes_none, outcomes_ok}
use Rattle.dms_multi.proofs.spots.outcome_at.Goals as goal

pub returns-then-is_empty-clause-none : goal.returns-then-is_empty-clause-none
returns-then-is_empty-clause-none c = outcomes_none _ _ (eqb-true _ _ (sym c.if-is_empty.ensures))

pub overflow_sub-past : goal.overflow_sub-past
overflow_sub-past c = omega (arith, shorter _ _ c.in-Ok.ensures)

pub returns-in-Ok-clause-some : goal.returns-in-Ok-clause-some
returns-in-Ok-clause-some c =
    let some : 0 < length c.args.text.now = grind (arith, nat_tests, c.if-is_empty.ensures) in
    outcomes_ok _ _ _ some c.in-Ok.ensures

pub returns-in-Ok-clause-rest : goal.returns-in-Ok-clause-rest
returns-in-Ok-clause-rest c = omega (arith, shorter _ _ c.in-Ok.ensures)

pub returns-in-Err-clause-some : goal.returns-in-Err-clause-some
unfolding outcomes_within
returns-in-Err-clause-some c = grind arith
