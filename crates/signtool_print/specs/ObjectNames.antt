-- the names of objects, as they are printed (NTCIP 1203)
use Rattle.std.specs.Prelude.{◌≡◌, ℕ, ◌==◌, ◌&&◌, Bool, true, false, List, Option, Some, All, slice_get}
use Rattle.std.specs.List.{find}
use Rattle.std.specs.Option.{option_map}
use Rattle.dms_mib.specs.declared.objects.Group.{Group}
use Rattle.dms_mib.specs.declared.objects.Group.TheVariants.{VmsCfg, MultiCfg, DmsMessage}
use Rattle.dms_mib.specs.declared.objects.Group.TheVariants.{DmsMessageEntry, SignControl}
use Rattle.dms_mib.specs.declared.objects.Object.{Object}

-- by these rows, the name of an object that stands under this number in this group
abbrev pub IsName : List (List ℕ × Object) → Group → ℕ → List ℕ → Type 0
IsName rows group number name = (k : ℕ) × (object : Object) × (slice_get rows k ≡ Some (name, object))
    × (object.group ≡ group) × (object.number ≡ number)

-- by these rows, no object stands under this number in this group
abbrev pub HasNone : List (List ℕ × Object) → Group → ℕ → Type 0
HasNone rows group number = All (λ (row : List ℕ × Object). (row.1.group ≡ group) → (row.1.number ≡ number) → ⊥) rows

-- whether two groups are the same
abbrev pub same_group : Group → Group → Bool
same_group VmsCfg VmsCfg = true
same_group MultiCfg MultiCfg = true
same_group DmsMessage DmsMessage = true
same_group DmsMessageEntry DmsMessageEntry = true
same_group SignControl SignControl = true
same_group one other = false

-- whether an object stands under this number in this group
abbrev pub stands_at : Object → Group → ℕ → Bool
stands_at object group number = same_group object.group group && (object.number == number)

-- by these rows, the name of the first object under this number in this group, if there is one
abbrev pub name_among : List (List ℕ × Object) → Group → ℕ → Option (List ℕ)
name_among rows group number =
    option_map (λ (row : List ℕ × Object). row.0) (find (λ (row : List ℕ × Object). stands_at row.1 group number) rows)
