use Rattle.std.proofs.Common.{sym, ◌∙◌, arith}
use Rattle.dms_sign.proofs.Seconds.{none_passed, one_more, all_rest}
use Rattle.dms_sign.proofs.sign.Sign.pass.Goals as goal

pub loop-init : goal.loop-init
loop-init c = none_passed c.args.self.now

pub loop-preserved : goal.loop-preserved
loop-preserved c = one_more c.loop.counter c.args.self.now c.loop.self _ c.loop.invariant c.tick.ensures

pub returns-then-is_at_rest : goal.returns-then-is_at_rest
returns-then-is_at_rest c =
    all_rest c.args.seconds c.loop.counter c.args.self.now c.loop.self (omega (arith, c.loop-test.true)) c.loop.invariant
    (sym c.is_at_rest.ensures ∙ c.if-is_at_rest.true)
