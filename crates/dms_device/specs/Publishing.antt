-- What publishing and withdrawing an object leave (this profile).
use Rattle.std.specs.Prelude.{ℕ, not, List, [], ◌∷◌, if◌then◌else◌}
use Rattle.std.specs.List.{filter}
use Rattle.dms_device.specs.Object.{DeviceObject}
use Rattle.dms_device.specs.Objects.{has_name, comes_after}

-- The object stands in its place, in place of the one that had its name: what firmware says is newer than what a
-- manager set.
abbrev pub published : List DeviceObject → DeviceObject → List DeviceObject
published [] object = object ∷ []
published (other ∷ more) object =
    if comes_after object.name other then object ∷ other ∷ more
    else if has_name object.name other then object ∷ more
    else other ∷ published more object

-- all objects but the one with this name
abbrev pub withdrawn : List DeviceObject → List ℕ → List DeviceObject
withdrawn objects name = filter (λ object. not (has_name name object)) objects
