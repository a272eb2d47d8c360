-- The table of objects, computed.
use Rattle.std.proofs.Common.{◌≡◌, ℕ, true, List, map, Some, slice_get, nat_eq, refl, arith}
use Rattle.std.specs.Prelude.{unwrap_or}
use Rattle.std.specs.List.{position_from}
use Rattle.std.specs.Cmp.Lexicographic.{pointwise}
use Rattle.dms_mib.specs.declared.column.Column.{Column}
use Rattle.dms_mib.specs.declared.scalar.Scalar.{Scalar}
use Rattle.dms_mib.specs.declared.objects.Instances.{Instances}
use Rattle.dms_mib.specs.declared.objects.Instances.TheVariants.{One, EachRow}
use Rattle.dms_mib.specs.Objects.{every_object, objects, listed, numbers_of}
use Rattle.dms_mib.specs.TableLaws.{numbers_below_dms, HasRow, is_rising}
use Rattle.dms_mib.specs.declared.objects.Object.{Object}

pub numbers : map (λ (object : Object). numbers_below_dms object.instances) listed ≡ map numbers_of listed
unfolding objects
numbers = refl

pub rising : is_rising (map numbers_of listed) ≡ true
unfolding objects
rising = refl

-- where an object stands in the table: where its number does
abbrev place : List ℕ → ℕ
place numbers = unwrap_or (position_from (λ (which : Instances). pointwise nat_eq (numbers_below_dms which) numbers) 0 every_object) 0

scalar_at : (object : Scalar) → slice_get every_object (place (numbers_below_dms (One object))) ≡ Some (One object)
scalar_at object = grind arith

column_at : (column : Column) → slice_get every_object (place (numbers_below_dms (EachRow column))) ≡ Some (EachRow column)
column_at column = grind arith

pub each : (instances : Instances) → HasRow instances
unfolding objects
each (One object) = (place (numbers_below_dms (One object)), scalar_at object)
each (EachRow column) = (place (numbers_below_dms (EachRow column)), column_at column)
