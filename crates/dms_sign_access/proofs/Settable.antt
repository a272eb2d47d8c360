-- What can be set, by the table of objects, computed.
use Rattle.std.proofs.Common.{◌≡◌, map, refl}
use Rattle.dms_mib.specs.declared.objects.Object.{Object}
use Rattle.dms_mib.specs.Objects.{objects, is_written, listed}
use Rattle.dms_sign_access.specs.Access.{is_settable_object}
use Rattle.dms_sign_access.specs.Settable.{is_settable_in}

pub settable : map (λ (object : Object). is_settable_in object.instances) listed ≡ map (λ (object : Object). is_written object.access) listed
unfolding objects is_settable_object
settable = refl
