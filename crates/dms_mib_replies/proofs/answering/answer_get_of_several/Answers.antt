use Rattle.dms_wire.specs.View.{snmp_message}
use Rattle.dms_mib_replies.proofs.Fitting.{few_are_read}
use Rattle.dms_mib_replies.proofs.answering.answer_get_of_several.Goals as goal

pub values_of-requires-clause-few : goal.values_of-requires-clause-few
values_of-requires-clause-few g c = few_are_read (snmp_message c.args.message.now) c.requires
