-- The walk of a device's objects.
use Rattle.std.proofs.Common.{◌≡◌, ℕ, Bool, true, false, cond, List, [], ◌∷◌, Option, Some, None, refl, ap, ◌∙◌, find}
use Rattle.std.specs.Prelude.{option_map}
use Rattle.std.specs.List.{list_all}
use Rattle.std.proofs.lemmas.Bool.{and_parts, both_ways, false_from_ne_true}
use Rattle.dms_wire_ber.specs.NameOrder.{is_before}
use Rattle.dms_wire.specs.Message.{ObjectValue, VarBind}
use Rattle.dms_mib_replies.specs.Walk.{IsNext, Follows, IsWalk}
use Rattle.dms_device.specs.Object.{DeviceObject}
use Rattle.dms_device.specs.Objects.{has_name, comes_after, rises, device_value, device_after, binding_of}
use Rattle.dms_device.proofs.Order.{same_name, names_itself, before_differs, none_of, all_after}
use Rattle.dms_device.proofs.Found.{none_found}

-- the same is read after a name
alike : (r t : List ℕ → Option ObjectValue) (name : List ℕ) (o : Option VarBind) → ((n : List ℕ) → is_before name n ≡ true → t n ≡ r n)
    → Follows r name o → Follows t name o
alike r t name None same is = λ n after. same n after ∙ is n after
alike r t name (Some b) same is = record {
  value = same b.name is.after ∙ is.value;
  after = is.after;
  first = λ n after before. same n after ∙ is.first n after before;
}

here : (x : DeviceObject) (xs : List DeviceObject) → device_value (x ∷ xs) x.name ≡ Some x.value
here x xs = rw (names_itself x.name x refl) refl

past : (name : List ℕ) (x : DeviceObject) (xs : List DeviceObject) → has_name name x ≡ false → device_value (x ∷ xs) name ≡ device_value xs name
past name x xs h = rw h refl

-- nothing has a name before all objects
none_below : (name : List ℕ) (xs : List DeviceObject) → list_all (comes_after name) xs ≡ true → device_value xs name ≡ None
none_below name xs all =
    ap (option_map (λ (object : DeviceObject). object.value))
    (none_found (has_name name) xs (none_of (comes_after name) (has_name name) (λ x h. before_differs name x h) xs all))

-- an object that is not after a name has no name that is
not_after : (name n : List ℕ) (x : DeviceObject) → is_before name x.name ≡ false → is_before name n ≡ true → has_name n x ≡ false
not_after name n x h after =
    false_from_ne_true (has_name n x) λ e. both_ways (is_before name x.name) h (ap (is_before name) (same_name n x e) ∙ after)

first_is : (name : List ℕ) (x : DeviceObject) (xs : List DeviceObject) → is_before name x.name ≡ true
    → list_all (comes_after x.name) xs ≡ true → IsNext (device_value (x ∷ xs)) name (binding_of x)
first_is name x xs h all = record {
  value = here x xs;
  after = h;
  first = λ n after before. past n x xs (before_differs n x before) ∙ none_below n xs (all_after n x xs before all);
}

stepped : (name : List ℕ) (x : DeviceObject) (xs : List DeviceObject) (t : Bool) → comes_after name x ≡ t → list_all (comes_after x.name) xs ≡ true
    → Follows (device_value xs) name (device_after xs name)
    → Follows (device_value (x ∷ xs)) name (option_map binding_of (cond t (Some x) (find (comes_after name) xs)))
stepped name x xs true h all more = first_is name x xs h all
stepped name x xs false h all more =
    alike (device_value xs) (device_value (x ∷ xs)) name (device_after xs name) (λ n after. past n x xs (not_after name n x h after)) more

pub device_walk : (xs : List DeviceObject) → rises xs ≡ true → IsWalk (device_value xs) (device_after xs)
device_walk [] r = λ name other after. refl
device_walk (x ∷ xs) r =
    let parts = and_parts (list_all (comes_after x.name) xs) (rises xs) r in
    λ name. stepped name x xs (comes_after name x) refl parts.0 (device_walk xs parts.1 name)
