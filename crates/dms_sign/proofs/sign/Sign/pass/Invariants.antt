use Rattle.std.proofs.Common.{◌≡◌}
use Rattle.dms_sign.specs.Events.{after_ticks}
use Rattle.dms_sign.proofs.sign.Sign.pass.Given as goal

abbrev pub invariant-loop : goal.invariant-loop
invariant-loop l = l.self ≡ after_ticks l.counter l.initial.self
