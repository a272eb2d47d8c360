-- Values that are put back one after the other.
use Rattle.std.proofs.Common.{◌≡◌, List, [], ◌∷◌, map, sym, ap, ap₂, ◌∙◌}
use Rattle.dms_device.specs.Object.{DeviceObject}
use Rattle.dms_device.specs.Objects.{binding_of}
use Rattle.dms_device.specs.Setting.{set_by_binding, written}

-- the values that are left lead from the objects as they are now to what all lead to from the objects before
abbrev pub ArePutBack : (old now all rest : List DeviceObject) → Type 0
ArePutBack old now all rest = written now (map binding_of rest) ≡ written old (map binding_of all)

pub put_starts : (old now all rest : List DeviceObject) → now ≡ old → rest ≡ all → ArePutBack old now all rest
put_starts old now all rest same whole = ap₂ (λ objects values. written objects (map binding_of values)) same whole

pub put_more : (old now next all rest more : List DeviceObject) (value : DeviceObject) → rest ≡ value ∷ more
    → next ≡ map (set_by_binding (binding_of value)) now → ArePutBack old now all rest → ArePutBack old next all more
put_more old now next all rest more value is set so_far =
    ap (λ objects. written objects (map binding_of more)) set ∙ ap (λ values. written now (map binding_of values)) (sym is) ∙ so_far

pub put_all : (old now all rest : List DeviceObject) → rest ≡ [] → ArePutBack old now all rest → now ≡ written old (map binding_of all)
put_all old now all rest is so_far = ap (λ values. written now (map binding_of values)) (sym is) ∙ so_far

pub ruleset values = (put_starts, put_more, put_all)
