use Rattle.dms_wire.specs.View.{snmp_message}
use Rattle.dms_device_tests.proofs.devices.set.Goals as goal

pub set-requires : goal.set-requires
set-requires c = c.few_bindings.ensures.most (snmp_message c.in-Ok.message) c.as_slice.result.now c.in-Ok.ensures.found
