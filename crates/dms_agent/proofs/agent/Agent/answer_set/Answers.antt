use Rattle.dms_wire.specs.View.{snmp_message}
use Rattle.dms_mib_replies.proofs.Fitting.{few_are_read}
use Rattle.dms_agent.proofs.agent.Agent.answer_set.Goals as goal

pub set_own-requires : goal.set_own-requires
set_own-requires c = few_are_read (snmp_message c.args.message.now) c.requires.read
