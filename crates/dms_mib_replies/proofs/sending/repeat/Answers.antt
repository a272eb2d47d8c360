use Rattle.std.proofs.Common.{refl}
use Rattle.dms_wire.specs.ErrorStatus.{error_status_number}
use Rattle.dms_wire.specs.Response.{response_to}
use Rattle.dms_wire.specs.View.{snmp_message}
use Rattle.dms_mib_replies.proofs.Fitting.{sent_whole, sent_too_big}
use Rattle.dms_mib_replies.proofs.sending.repeat.Goals as goal

pub returns-in-Ok : goal.returns-in-Ok
returns-in-Ok c =
    sent_whole (snmp_message c.args.message.now) (error_status_number c.args.status) c.args.index c.args.message.now.binds
    (response_to (snmp_message c.args.message.now) (error_status_number c.args.status) c.args.index) c.write_response.new.out.items refl
    c.in-Ok.ensures.0 c.in-Ok.ensures.1

pub returns-in-Err : goal.returns-in-Err
returns-in-Err c =
    sent_too_big (snmp_message c.args.message.now) (error_status_number c.args.status) c.args.index c.args.message.now.binds
    (response_to (snmp_message c.args.message.now) (error_status_number c.args.status) c.args.index) c.refuse_too_big.new.out.items refl
    c.refuse_too_big.ensures c.in-Err.ensures.1
