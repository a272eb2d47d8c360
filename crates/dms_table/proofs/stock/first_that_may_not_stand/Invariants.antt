use Rattle.std.proofs.Common.{◌≡◌, false, take, All}
use Rattle.dms_table.specs.ValidatorView.{face_of}
use Rattle.dms_table.specs.Stock.{may_not_stand, HasGoodText}
use Rattle.dms_table.proofs.stock.first_that_may_not_stand.Given as goal

abbrev pub invariant-loop-place : goal.invariant-loop-place
invariant-loop-place l = record {
  stand : All (λ message. may_not_stand l.validator.services (face_of l.validator) message ≡ false) (take l.place l.messages);
  good : All (HasGoodText (face_of l.validator)) (take l.place l.messages);
}
