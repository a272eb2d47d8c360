-- Whether the only binding of a Set has the name of an object, where the code has the list of objects by two names.
use Rattle.std.proofs.Common.{◌≡◌, ◌<◌, ℕ, true, false, ◌&&◌, List, [], ◌∷◌, length, sym, ap, subst, ◌∙◌}
use Rattle.std.specs.List.{list_any}
use Rattle.dms_wire.specs.Message.{VarBind}
use Rattle.dms_device.specs.Object.{DeviceObject}
use Rattle.dms_device.specs.Objects.{has_name, rises}
use Rattle.dms_device.specs.Setting.{is_named, are_all_named}
use Rattle.dms_device.proofs.Found.{HasNameAt}
use Rattle.dms_device.proofs.Naming.{named_there, named_none}

pub only_named : (xs ys : List DeviceObject) (bs : List VarBind) (b : VarBind) (k : ℕ) → xs ≡ ys → bs ≡ b ∷ [] → rises ys ≡ true
    → k < length xs → HasNameAt b.name xs k → true ≡ are_all_named ys bs
only_named xs ys bs b k same only r lt found =
    let risen : rises xs ≡ true = subst (λ l. rises l ≡ true) (sym same) r in
    let there : is_named ys b ≡ true = subst (λ l. is_named l b ≡ true) same (named_there xs b k risen lt found) in
    sym (ap (λ t. t && true) there) ∙ ap (are_all_named ys) (sym only)

pub only_not_named : (xs ys : List DeviceObject) (bs : List VarBind) (b : VarBind) → xs ≡ ys → bs ≡ b ∷ []
    → list_any (has_name b.name) xs ≡ false → false ≡ are_all_named ys bs
only_not_named xs ys bs b same only none =
    let missing : is_named ys b ≡ false = subst (λ l. is_named l b ≡ false) same (named_none xs b none) in
    sym (ap (λ t. t && true) missing) ∙ ap (are_all_named ys) (sym only)
