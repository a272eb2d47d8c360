-- What is printed of an object's instance (this profile).
use Rattle.std.specs.Prelude.{ℕ, List, ◌++◌, codes, decimal}
use Rattle.signtool_print.specs.declared.names.NamedInstance.{NamedInstance}
use Rattle.signtool_print.specs.declared.names.NamedInstance.TheVariants.{Only, Row}

-- the object's name and the numbers of the instance, with dots between them
abbrev pub instance_text : NamedInstance → List ℕ
instance_text (Only object) = object.now ++ codes ".0"
instance_text (Row column memory number) = column.now ++ codes "." ++ decimal memory ++ codes "." ++ decimal number
