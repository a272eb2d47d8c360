-- Of something that is found where a test holds, or where it does not.
use Rattle.std.proofs.Common.{◌≡◌, Bool, true, false, cond, Option, Some, None, refl}

pub if_true : {A : Type 0} (b : Bool) (found : Option A) (x : A) → cond b found None ≡ Some x → (b ≡ true) × (found ≡ Some x)
if_true true found x e = (refl, e)
if_true false found x e = absurd cc

pub if_false : {A : Type 0} (b : Bool) (found : Option A) (x : A) → cond b None found ≡ Some x → (b ≡ false) × (found ≡ Some x)
if_false true found x e = absurd cc
if_false false found x e = (refl, e)
