use Rattle.std.proofs.Common.{◌≡◌, false, not, All, ap, subst, sym, ◌∙◌, arith}
use Rattle.std.proofs.lemmas.List.{take_all}
use Rattle.dms_table.specs.ValidatorView.{face_of}
use Rattle.dms_table.specs.Stock.{may_not_stand, HasGoodText}
use Rattle.dms_codes.proofs.Loops.{all_more, found_at, found_nowhere}
use Rattle.dms_table.proofs.stock.first_that_may_not_stand.Goals as goal

pub loop-place-preserved : goal.loop-place-preserved
loop-place-preserved c = record {
  stand = all_more (λ message. may_not_stand c.args.validator.now.services (face_of c.args.validator.now) message ≡ false) c.loop-place.place c.args.messages.now _ c.loop-place-test.true c.loop-place.invariant.stand
      (ap not (sym c.may_stand.ensures.value ∙ c.if-not-may_stand.false));
  good = all_more (HasGoodText (face_of c.args.validator.now)) c.loop-place.place c.args.messages.now _ c.loop-place-test.true c.loop-place.invariant.good
      (c.may_stand.ensures.good c.if-not-may_stand.false);
}

pub returns-then-not-may_stand-clause-place : goal.returns-then-not-may_stand-clause-place
returns-then-not-may_stand-clause-place c = grind (arith, found_at)

pub returns-clause-place : goal.returns-clause-place
returns-clause-place c =
    sym (found_nowhere (may_not_stand c.args.validator.now.services (face_of c.args.validator.now)) c.args.messages.now
    (subst (All (λ message. may_not_stand c.args.validator.now.services (face_of c.args.validator.now) message ≡ false)) (take_all c.loop-place.place c.args.messages.now (omega arith)) c.loop-place.invariant.stand))

pub returns-clause-good : goal.returns-clause-good
returns-clause-good c = subst (All (HasGoodText (face_of c.args.validator.now))) (take_all c.loop-place.place c.args.messages.now (omega arith)) c.loop-place.invariant.good
