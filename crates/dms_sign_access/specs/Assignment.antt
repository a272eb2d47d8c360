-- What the writes of a SET give to the objects with one instance (this profile).
use Rattle.std.specs.Prelude.{ℕ, ◌==◌, ◌&&◌, Bool, if◌then◌else◌, List, [], ◌∷◌, Option, Some, None, unwrap_or}
use Rattle.dms_mib.specs.declared.scalar.Scalar.{Scalar}
use Rattle.dms_mib.specs.Names.{scalar_number}
use Rattle.dms_sign_access.specs.Access.{Write, SetNumber, SetCode}

-- the value that these give, the last of it where there are more, or else the old one: a SET that is not refused names
-- no object twice
abbrev pub given : {A B : Type 0} → (A → Option B) → List A → B → B
given pick [] old = old
given pick (x ∷ xs) old = given pick xs (unwrap_or (pick x) old)

-- two objects are one: they have one number
abbrev pub is_same : Scalar → Scalar → Bool
is_same a b = (scalar_number a).0 == (scalar_number b).0 && (scalar_number a).1 == (scalar_number b).1

-- what a write gives to an object
abbrev pub number_for : Scalar → Write → Option ℕ
number_for object (SetNumber other number) = if is_same object other then Some number else None
number_for object _ = None

abbrev pub code_for : Scalar → Write → Option (List ℕ)
code_for object (SetCode other octets) = if is_same object other then Some octets else None
code_for object _ = None
