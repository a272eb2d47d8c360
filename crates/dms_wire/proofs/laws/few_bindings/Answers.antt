use Rattle.dms_wire.proofs.FewBindings.{few_bindings, most_bindings_read}
use Rattle.dms_wire.proofs.laws.few_bindings.Goals as goal

pub returns-clause-octets : goal.returns-clause-octets
returns-clause-octets c = few_bindings

pub returns-clause-most : goal.returns-clause-most
returns-clause-most c = most_bindings_read
