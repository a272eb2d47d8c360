use Rattle.dms_wire.specs.View.{snmp_message}
use Rattle.dms_wire.specs.Canonical.{canonical}
use Rattle.dms_wire.specs.Response.{response_to}
use Rattle.dms_mib_replies.specs.Replies.{too_big}
use Rattle.dms_mib_replies.proofs.Fitting.{written_whole, error_fits}
use Rattle.dms_mib_replies.proofs.sending.refuse_too_big.Goals as goal

pub returns : goal.returns
returns c =
    written_whole c.write_response.result c.write_response.new.out.items (canonical (response_to (snmp_message c.args.message.now) too_big 0))
    c.write_response.ensures (error_fits (snmp_message c.args.message.now) c.requires)
