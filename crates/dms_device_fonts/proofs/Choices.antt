-- One option, or else another.
use Rattle.std.proofs.Common.{◌≡◌, ℕ, suc, ◌+◌, ◌-◌, ◌<◌, ◌≤◌, List, Option, Some, None, length, get_or, refl, sym, ap, arith}
use Rattle.std.specs.Prelude.{option_map}
use Rattle.std.proofs.lemmas.Option.{slice_get_read}
use Rattle.dms_wire.specs.Message.{VarBind}
use Rattle.dms_face_font.specs.Font.{FontModel}
use Rattle.dms_device_fonts.specs.Tree.{first_from, or_first, below}
use Rattle.dms_device_fonts.specs.Fonts.{font_at}
use Rattle.dms_device_fonts.specs.View.{cell_binding, place_binding, placed}
use Rattle.dms_device_fonts.specs.declared.place.FontCell.{FontCell}
use Rattle.dms_device_fonts.specs.declared.place.FontPlace.{FontPlace}

pub or_some : (o more : Option VarBind) (n : ℕ) (b : VarBind) → o ≡ Some b → Some (below n b) ≡ or_first (option_map (below n) o) more
or_some o more n b e = sym (ap (λ o. or_first (option_map (below n) o) more) e)

pub or_none : (o more : Option VarBind) (n : ℕ) → o ≡ None → more ≡ or_first (option_map (below n) o) more
or_none o more n e = sym (ap (λ o. or_first (option_map (below n) o) more) e)

pub or_found : (o more : Option VarBind) (b : VarBind) → Some b ≡ o → Some b ≡ or_first o more
or_found o more b e = ap (λ o. or_first o more) e

pub or_missing : (o more : Option VarBind) → None ≡ o → more ≡ or_first o more
or_missing o more e = ap (λ o. or_first o more) e

pub step_at : (first : ℕ → Option VarBind) (n end : ℕ) → n < end
    → first_from first n (end - n) ≡ or_first (option_map (below n) (first n)) (first_from first (n + 1) (end - (n + 1)))
step_at first n end low = ap (first_from first n) (let left : end - n ≡ suc (end - (n + 1)) = omega arith in left)

pub cells_below : (o : Option FontCell) → option_map (λ cell. below 1 (cell_binding cell)) o ≡ option_map (below 1) (option_map cell_binding o)
cells_below None = refl
cells_below (Some cell) = refl

pub places_below : (node : List ℕ) (fonts : List FontModel) (o : Option FontPlace)
    → option_map (λ place. placed node (place_binding fonts place)) o ≡ option_map (placed node) (option_map (place_binding fonts) o)
places_below node fonts None = refl
places_below node fonts (Some place) = refl

pub font_there : (fonts : List FontModel) (index : ℕ) (font : FontModel) → 1 ≤ index → index ≤ length fonts → font ≡ get_or fonts (index - 1) font → font_at fonts index ≡ Some font
font_there fonts index font least most is = slice_get_read fonts (length fonts) (index - 1) font refl (omega arith) is
