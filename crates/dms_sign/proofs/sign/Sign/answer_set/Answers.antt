use Rattle.std.proofs.Common.{Bool, Ok, Err, subst, ◌∙◌}
use Rattle.dms_wire.proofs.LimitsLaws.{spelled_in_limits}
use Rattle.dms_wire.specs.declared.error_status.ErrorStatus.TheVariants.{NoError}
use Rattle.dms_wire.specs.View.{snmp_message}
use Rattle.dms_sign.specs.Requests.{set, may_write}
use Rattle.dms_sign.specs.SetView.{Says}
use Rattle.dms_mib_replies.proofs.Fitting.{few_are_read}
use Rattle.dms_sign.proofs.Sending.{reply_says}
use Rattle.dms_sign.proofs.Assigned.{set_echoes}
use Rattle.dms_sign.proofs.sign.Sign.answer_set.Goals as goal

pub set-requires-clause-few : goal.set-requires-clause-few
set-requires-clause-few c = few_are_read (snmp_message c.args.message.now) c.requires

pub set-requires-clause-limits : goal.set-requires-clause-limits
set-requires-clause-limits c = (spelled_in_limits (snmp_message c.args.message.now) c.requires.octets c.requires.spelled).bindings

pub returns-in-Ok-clause-reply : goal.returns-in-Ok-clause-reply
returns-in-Ok-clause-reply c =
    let m = snmp_message c.args.message.now in
    let s = c.args.self.now in
    let says = subst (λ (may : Bool). Says (Ok c.in-Ok.accepted) (set s may m.bindings)) c.may_write.ensures c.in-Ok.ensures.says in
    c.repeat.ensures ∙ reply_says m (set s (may_write s m) m.bindings) NoError 0 says.0 says.1 (set_echoes s (may_write s m) m.bindings)

pub returns-in-Err-clause-reply : goal.returns-in-Err-clause-reply
returns-in-Err-clause-reply c =
    let m = snmp_message c.args.message.now in
    let s = c.args.self.now in
    let says = subst (λ (may : Bool). Says (Err c.in-Err.refusal) (set s may m.bindings)) c.may_write.ensures c.in-Err.ensures.says in
    c.repeat-in-Err.ensures
    ∙ reply_says m (set s (may_write s m) m.bindings) c.in-Err.refusal.status c.in-Err.refusal.index says.0 says.1 (set_echoes s (may_write s m) m.bindings)
