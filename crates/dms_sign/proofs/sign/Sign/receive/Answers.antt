use Rattle.std.proofs.Common.{sym, ap, ◌∙◌}
use Rattle.dms_sign.proofs.Addressed.{answered_where, dropped_where}
use Rattle.dms_sign.proofs.sign.Sign.receive.Goals as goal

pub returns-in-Ok-clause-after : goal.returns-in-Ok-clause-after
returns-in-Ok-clause-after c =
    c.answer.ensures.after ∙ sym (ap (λ r. r.after) (answered_where _ _ _ _ c.in-Ok.is c.read.ensures.found (sym c.is_addressed.ensures ∙ c.if-is_addressed.true)))

pub returns-in-Ok-clause-reply : goal.returns-in-Ok-clause-reply
returns-in-Ok-clause-reply c =
    c.answer.ensures.reply ∙ sym (ap (λ r. r.reply) (answered_where _ _ _ _ c.in-Ok.is c.read.ensures.found (sym c.is_addressed.ensures ∙ c.if-is_addressed.true)))

pub returns-in-Ok-clause-accepted : goal.returns-in-Ok-clause-accepted
returns-in-Ok-clause-accepted c =
    c.answer.ensures.accepted ∙ sym (ap (λ r. r.accepted) (answered_where _ _ _ _ c.in-Ok.is c.read.ensures.found (sym c.is_addressed.ensures ∙ c.if-is_addressed.true)))

pub returns-in_default-clause-after : goal.returns-in_default-clause-after
returns-in_default-clause-after c =
    sym (ap (λ r. r.after) (dropped_where _ _ _ _ c.in-Ok.is c.read.ensures.found (sym c.is_addressed.ensures ∙ c.if-is_addressed.false)))

pub returns-in_default-clause-reply : goal.returns-in_default-clause-reply
returns-in_default-clause-reply c =
    sym (ap (λ r. r.reply) (dropped_where _ _ _ _ c.in-Ok.is c.read.ensures.found (sym c.is_addressed.ensures ∙ c.if-is_addressed.false)))

pub returns-in_default-clause-accepted : goal.returns-in_default-clause-accepted
returns-in_default-clause-accepted c =
    sym (ap (λ r. r.accepted) (dropped_where _ _ _ _ c.in-Ok.is c.read.ensures.found (sym c.is_addressed.ensures ∙ c.if-is_addressed.false)))
