use Rattle.std.proofs.Common.{◌∷◌, length, ap, ◌∙◌, arith, rules, length-append}
use Rattle.dms_wire.proofs.UsualMessages.{short_integer}
use Rattle.dms_wire.proofs.usual.short_integer.Goals as goal

pub returns-clause-found : goal.returns-clause-found
returns-clause-found c = λ end.
    let read = short_integer end c.in_ok-content.content.now c.in_ok-content.rest.now c.args.octets.now _
    (c.in_ok-after.ensures ∙ ap (λ rest. 2 ∷ rest) c.in_ok-content.ensures.parts) c.in_ok-content.ensures.short c.in_ok-number.ensures in
    search (rules, read)

pub returns-clause-fewer : goal.returns-clause-fewer
returns-clause-fewer c =
    omega (arith, ap length c.in_ok-after.ensures, ap length c.in_ok-content.ensures.parts, length-append c.in_ok-content.content.now c.in_ok-content.rest.now)
