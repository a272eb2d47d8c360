use Rattle.std.proofs.Common.{ℕ, ◌==◌, ◌∙◌, arith}
use Rattle.std.proofs.lemmas.Iterator.Adapters.{position_from-zero}
use Rattle.dms_text.proofs.Newlines.{passed_eight, eight_fewer}
use Rattle.dms_text.proofs.parts.newline_in.Goals as goal

pub loop-left-init : goal.loop-left-init
loop-left-init c = record { same = position_from-zero (λ (octet : ℕ). octet == 10) c.args.text.now; all = omega arith }

pub loop-left-preserved : goal.loop-left-preserved
loop-left-preserved c = record {
  same = c.loop-left.invariant.same ∙ passed_eight c.loop-left.before c.loop-left.left.now (omega arith) c.if-first-eq10.false c.if-second-eq10.false c.if-third-eq10.false c.if-fourth-eq10.false c.if-fifth-eq10.false c.if-sixth-eq10.false c.if-seventh-eq10.false c.if-eighth-eq10.false;
  all = omega (arith, eight_fewer c.loop-left.left.now (omega arith), c.loop-left.invariant.all);
}
