-- What may be written to an object that is assigned, by its row of the table.
use Rattle.std.proofs.Common.{◌≡◌, ℕ, arith}
use Rattle.std.specs.Prelude.{option_map}
use Rattle.dms_wire.specs.Message.{ObjectValue}
use Rattle.dms_face.specs.Face.{FaceModel}
use Rattle.dms_mib.specs.declared.scalar.Scalar.{Scalar}
use Rattle.dms_mib.specs.declared.scalar.Scalar.TheVariants.{DefaultFont}
use Rattle.dms_mib.specs.declared.objects.Access.TheVariants.{Write}
use Rattle.dms_mib.specs.declared.objects.Syntax.TheVariants.{Range, Octets}
use Rattle.dms_mib.specs.Objects.{scalar_row}
use Rattle.dms_sign_access.specs.Access.{SetNumber, SetCode, number_in, octets_in, setting_of}

-- octets that are assigned are the five of the code of a message
pub code_setting : (face : FaceModel) (object : Scalar) (value : ObjectValue) (low high : ℕ) → (scalar_row object).access ≡ Write
    → Octets low high ≡ (scalar_row object).syntax → option_map (SetCode object) (octets_in 5 5 value) ≡ setting_of face object value
code_setting face object value low high may is = grind arith

-- numbers that are assigned, but for that of a font
pub number_setting : (face : FaceModel) (object : Scalar) (value : ObjectValue) (low high : ℕ) → (object ≡ DefaultFont → ⊥)
    → (scalar_row object).access ≡ Write → Range low high ≡ (scalar_row object).syntax
    → option_map (SetNumber object) (number_in low high value) ≡ setting_of face object value
number_setting face object value low high other may is = grind arith
