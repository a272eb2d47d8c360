use Rattle.std.proofs.Common.{List, [], ◌∷◌}
use Rattle.dms_wire.specs.Message.{VarBind}
use Rattle.dms_wire.specs.View.{snmp_message, message_around, binding_of}
use Rattle.dms_mib_replies.proofs.Fitting.{sent_whole, sent_too_big}
use Rattle.dms_mib_replies.proofs.sending.reply_value.Goals as goal

pub returns-in-Ok : goal.returns-in-Ok
returns-in-Ok c =
    let bindings : List VarBind = binding_of c.args.name.now c.args.value.now ∷ [] in
    sent_whole (snmp_message c.args.message.now) 0 0 bindings (message_around c.response.result bindings) c.write_value.new.out.items
    (c.response.ensures bindings) c.in-Ok.ensures.0 c.in-Ok.ensures.1

pub returns-in-Err : goal.returns-in-Err
returns-in-Err c =
    let bindings : List VarBind = binding_of c.args.name.now c.args.value.now ∷ [] in
    sent_too_big (snmp_message c.args.message.now) 0 0 bindings (message_around c.response.result bindings) c.refuse_too_big.new.out.items
    (c.response.ensures bindings) c.refuse_too_big.ensures c.in-Err.ensures.1
