-- What a manager may write to the object of a name, looked for among objects one by one.
use Rattle.std.proofs.Common.{◌≡◌, ℕ, true, false, cond, List, [], ◌∷◌, Some, None, option_map, Bool, refl, sym, ap, ◌∙◌}
use Rattle.std.specs.List.{find}
use Rattle.dms_device.specs.Object.{DeviceObject}
use Rattle.dms_device.specs.Objects.{has_name}
use Rattle.dms_agent_lines.specs.AgentAnswer.{access_of}

-- what it is for the first object, or for those behind it
pub access_first : (name : List ℕ) (object : DeviceObject) (more : List DeviceObject)
    → access_of (object ∷ more) name ≡ cond (has_name name object) (Some object.access) (access_of more name)
access_first name object more = by_first (has_name name object)
  where
    by_first : (b : Bool) → option_map (λ (object : DeviceObject). object.access) (cond b (Some object) (find (has_name name) more)) ≡ cond b (Some object.access) (access_of more name)
    by_first true = refl
    by_first false = refl

-- what it is for the rest it is for all
abbrev pub IsSought : (name : List ℕ) (all rest : List DeviceObject) → Type 0
IsSought name all rest = access_of rest name ≡ access_of all name

pub sought_starts : (name : List ℕ) (all rest : List DeviceObject) → rest ≡ all → IsSought name all rest
sought_starts name all rest is = ap (λ objects. access_of objects name) is

pub sought_more : (name : List ℕ) (object : DeviceObject) (all rest more : List DeviceObject) → rest ≡ object ∷ more → has_name name object ≡ false
    → IsSought name all rest → IsSought name all more
sought_more name object all rest more is other so_far =
    sym (ap (λ objects. access_of objects name) is ∙ access_first name object more ∙ ap (λ b. cond b (Some object.access) (access_of more name)) other) ∙ so_far

pub sought_found : (name : List ℕ) (object : DeviceObject) (all rest more : List DeviceObject) → rest ≡ object ∷ more → has_name name object ≡ true
    → IsSought name all rest → Some object.access ≡ access_of all name
sought_found name object all rest more is named so_far =
    sym (ap (λ objects. access_of objects name) is ∙ access_first name object more ∙ ap (λ b. cond b (Some object.access) (access_of more name)) named) ∙ so_far

pub sought_none : (name : List ℕ) (all rest : List DeviceObject) → rest ≡ [] → IsSought name all rest → None ≡ access_of all name
sought_none name all rest is so_far = sym (ap (λ objects. access_of objects name) is) ∙ so_far

pub ruleset steps = (sought_starts, sought_more, sought_found, sought_none)
