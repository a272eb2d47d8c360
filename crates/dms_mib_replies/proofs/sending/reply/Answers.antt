use Rattle.dms_wire.specs.View.{snmp_message, message_around}
use Rattle.dms_mib_replies.proofs.Fitting.{sent_whole, sent_too_big}
use Rattle.dms_mib_replies.proofs.sending.reply.Goals as goal

pub returns-in-Ok : goal.returns-in-Ok
returns-in-Ok c = λ bindings is.
    let written = c.in-Ok.ensures bindings is in
    sent_whole (snmp_message c.args.message.now) 0 0 bindings (message_around c.response.result bindings) c.write_around.new.out.items
    (c.response.ensures bindings) written.0 written.1

pub returns-in-Err : goal.returns-in-Err
returns-in-Err c = λ bindings is.
    let written = c.in-Err.ensures bindings is in
    sent_too_big (snmp_message c.args.message.now) 0 0 bindings (message_around c.response.result bindings) c.refuse_too_big.new.out.items
    (c.response.ensures bindings) c.refuse_too_big.ensures written.1
