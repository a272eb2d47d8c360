-- What a search of a list says of it.
use Rattle.std.proofs.Common.{◌≡◌, ℕ, Bool, true, false, ◌||◌, cond, List, [], ◌∷◌, find, Option, Some, is_some, refl}
use Rattle.std.specs.List.{list_any}
use Rattle.dms_face.specs.Face.{FaceModel, has_font, font_of}

chosen_any : {X : Type 0} (b c : Bool) (x : X) (o : Option X) → c ≡ is_some o → (b || c) ≡ is_some (cond b (Some x) o)
chosen_any true c x o e = refl
chosen_any false c x o e = e

pub any_is_found : {X : Type 0} (p : X → Bool) (xs : List X) → list_any p xs ≡ is_some (find p xs)
any_is_found p [] = refl
any_is_found p (x ∷ xs) = chosen_any (p x) (list_any p xs) x (find p xs) (any_is_found p xs)

pub font_found : (face : FaceModel) (number : ℕ) → has_font face.fonts number ≡ is_some (font_of face number)
font_found face number = any_is_found _ face.fonts
