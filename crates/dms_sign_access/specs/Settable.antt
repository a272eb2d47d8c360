-- What can be set, by the instances that the table of objects has (this profile).
use Rattle.std.specs.Prelude.{Bool}
use Rattle.dms_mib.specs.declared.objects.Instances.{Instances}
use Rattle.dms_mib.specs.declared.objects.Instances.TheVariants.{One, EachRow}
use Rattle.dms_sign_access.specs.Access.{is_settable_object, is_settable_column}

-- these instances can be set, those of a column in the rows that can be written
abbrev pub is_settable_in : Instances → Bool
is_settable_in (One object) = is_settable_object object
is_settable_in (EachRow column) = is_settable_column column
