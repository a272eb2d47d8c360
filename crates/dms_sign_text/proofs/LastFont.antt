-- The last of some fonts.
use Rattle.std.proofs.Common.{◌≡◌, List, [], ◌∷◌, ◌++◌, Some, refl}
use Rattle.dms_face_font.specs.Font.{FontModel}
use Rattle.dms_sign_text.specs.Causes.{last_font}

pub last_is : (fonts : List FontModel) (font : FontModel) → last_font (fonts ++ font ∷ []) ≡ Some font
last_is [] font = refl
last_is (one ∷ []) font = refl
last_is (one ∷ other ∷ fonts) font = last_is (other ∷ fonts) font
