-- What was assigned to an object is what it reads.
use Rattle.std.proofs.Common.{◌≡◌, ℕ, List, [], ◌∷◌, arith}
use Rattle.dms_wire.specs.Message.{octet_string}
use Rattle.dms_mib.specs.declared.scalar.Scalar.{Scalar}
use Rattle.dms_mib.specs.declared.objects.Access.TheVariants as accesses
use Rattle.dms_mib.specs.declared.objects.Syntax.TheVariants.{Range, Octets}
use Rattle.dms_mib.specs.Objects.{scalar_row}
use Rattle.dms_sign_access.specs.Access.{SetNumber, SetCode}
use Rattle.dms_sign_access.specs.Cells.{number_value}
use Rattle.dms_sign_access.specs.Settings.{set_by}
use Rattle.dms_sign.specs.State.{SignState}
use Rattle.dms_sign.specs.Values.{scalar_value}
use Rattle.dms_sign.specs.SetRequest.{assigned}

pub number_is_read : (s : SignState) (object : Scalar) (low high number : ℕ) → (scalar_row object).access ≡ accesses.Write
    → (scalar_row object).syntax ≡ Range low high → scalar_value (assigned s (SetNumber object number ∷ [])) object ≡ number_value number
unfolding scalar_value assigned set_by
number_is_read s object low high number may is = grind arith

pub code_is_read : (s : SignState) (object : Scalar) (low high : ℕ) (octets : List ℕ) → (scalar_row object).access ≡ accesses.Write
    → (scalar_row object).syntax ≡ Octets low high → scalar_value (assigned s (SetCode object octets ∷ [])) object ≡ octet_string octets
unfolding scalar_value assigned set_by
code_is_read s object low high octets may is = grind arith
