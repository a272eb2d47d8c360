use Rattle.std.proofs.Common.{◌∙◌}
use Rattle.dms_face.proofs.GoodLaws.{good_law}
use Rattle.dms_face.proofs.WalkLaws.{checked_long, checked_walk}
use Rattle.dms_face.proofs.checking.check_with.Goals as goal

pub returns-then-text-gt-MAX_TEXT-clause-exact : goal.returns-then-text-gt-MAX_TEXT-clause-exact
returns-then-text-gt-MAX_TEXT-clause-exact c = checked_long _ c.args.text.now c.if-text-gt-MAX_TEXT.true

pub returns-clause-exact : goal.returns-clause-exact
returns-clause-exact c = c.walk.ensures ∙ checked_walk _ c.args.text.now c.if-text-gt-MAX_TEXT.false

pub returns-clause-good : goal.returns-clause-good
returns-clause-good c = good_law _ c.args.text.now c.walk.result (c.walk.ensures ∙ checked_walk _ c.args.text.now c.if-text-gt-MAX_TEXT.false)
