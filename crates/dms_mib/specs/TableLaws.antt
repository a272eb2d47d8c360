-- What holds of the table of objects (NTCIP 1203).
use Rattle.std.specs.Prelude.{◌≡◌, ℕ, ◌&&◌, Bool, true, List, [], ◌∷◌, map, Some, slice_get}
use Rattle.std.specs.Ordering.{is_lt}
use Rattle.dms_wire_ber.specs.NameOrder.{numbers_cmp}
use Rattle.dms_mib.specs.declared.objects.Object.{Object}
use Rattle.dms_mib.specs.declared.objects.Instances.{Instances}
use Rattle.dms_mib.specs.declared.objects.Instances.TheVariants.{One, EachRow}
use Rattle.dms_mib.specs.Names.{column_number, scalar_number}
use Rattle.dms_mib.specs.Objects.{listed}

-- the numbers below dms in the names of these instances
abbrev pub numbers_below_dms : Instances → List ℕ
numbers_below_dms (One object) = (scalar_number object).0 ∷ (scalar_number object).1 ∷ []
numbers_below_dms (EachRow column) = 5 ∷ 8 ∷ 1 ∷ column_number column ∷ []

-- these instances are those of an object of the table
abbrev pub HasRow : Instances → Type 0
HasRow instances = (k : ℕ) × (slice_get (map (λ (object : Object). object.instances) listed) k ≡ Some instances)

-- each name comes before the next
abbrev pub is_rising : List (List ℕ) → Bool
is_rising [] = true
is_rising (name ∷ []) = true
is_rising (name ∷ next ∷ names) = is_lt (numbers_cmp name next) && is_rising (next ∷ names)
