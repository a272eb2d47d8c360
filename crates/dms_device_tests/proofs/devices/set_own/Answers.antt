use Rattle.dms_wire.specs.View.{snmp_message}
use Rattle.dms_device_tests.proofs.devices.set_own.Goals as goal

pub set_own-requires : goal.set_own-requires
set_own-requires c = c.few_bindings.ensures.most (snmp_message c.in-Ok.message) c.as_slice.result.now c.in-Ok.ensures.found
