-- Readings that go on, and those that come to an end.
use Rattle.std.proofs.Common.{◌≡◌, ◌⊎◌, List, ℕ, Option, Some, None, Result, Ok, Err, refl, sym, ap, inl, inr}
use Rattle.dms_centre_restored.specs.declared.refusal.CentreStateField.{CentreStateField}
use Rattle.dms_centre_restored.specs.declared.refusal.CentreLineLack.{CentreLineLack}
use Rattle.dms_centre_restored.specs.Lacks.{here, wanting, unless, ◌>>=◌}

abbrev pub done : {A : Type 0} → A → Result A CentreLineLack
done x = Ok x

abbrev pub failed : {A : Type 0} → CentreLineLack → Result A CentreLineLack
failed lack = Err lack

pub ok_is : {A : Type 0} (x y : A) → done x ≡ done y → x ≡ y
ok_is x y e = cc

pub err_is : {A : Type 0} (x y : CentreLineLack) → failed {A = A} x ≡ failed {A = A} y → x ≡ y
err_is x y e = cc

-- what was read, and then what comes after it
pub reads_on : {A B : Type 0} (first : Result A CentreLineLack) (next : A → Result B CentreLineLack) (x : A) → first ≡ Ok x → (first >>= next) ≡ next x
reads_on first next x e = ap (λ r. r >>= next) e

pub wants_on : {A B : Type 0} (wanted : CentreStateField) (text : List ℕ) (found : Option A) (next : A → Result B CentreLineLack) (x : A) → found ≡ Some x → (wanting wanted text found >>= next) ≡ next x
wants_on wanted text found next x e = ap (λ found. wanting wanted text found >>= next) e

-- what a reading began with
pub bind_ok : {A B : Type 0} (first : Result A CentreLineLack) (next : A → Result B CentreLineLack) (y : B) → (first >>= next) ≡ Ok y → (x : A) × (first ≡ Ok x) × (next x ≡ Ok y)
bind_ok (Ok x) next y e = (x, refl, e)
bind_ok (Err lack) next y e = absurd cc

pub bind_err : {A B : Type 0} (first : Result A CentreLineLack) (next : A → Result B CentreLineLack) (lack : CentreLineLack) → (first >>= next) ≡ Err lack
    → (first ≡ Err lack) ⊎ ((x : A) × (first ≡ Ok x) × (next x ≡ Err lack))
bind_err (Ok x) next lack e = inr (x, refl, e)
bind_err {A = A} {B = B} (Err other) next lack e = inl (ap (λ l. failed {A = A} l) (err_is {A = B} other lack e))

pub wanting_ok : {A : Type 0} (wanted : CentreStateField) (text : List ℕ) (found : Option A) (x : A) → wanting wanted text found ≡ Ok x → found ≡ Some x
wanting_ok wanted text None x e = absurd cc
wanting_ok wanted text (Some y) x e = ap Some (ok_is y x e)

pub wanting_err : {A : Type 0} (wanted : CentreStateField) (text : List ℕ) (found : Option A) (lack : CentreLineLack) → wanting wanted text found ≡ Err lack
    → (found ≡ None) × (lack ≡ here wanted text)
wanting_err {A = A} wanted text None lack e = (refl, sym (err_is {A = A} (here wanted text) lack e))
wanting_err wanted text (Some y) lack e = absurd cc

pub unless_ok : {A F : Type 0} (lack : CentreLineLack) (fault : Option F) (value x : A) → unless lack fault value ≡ Ok x → (fault ≡ None) × (value ≡ x)
unless_ok lack None value x e = (refl, ok_is value x e)
unless_ok lack (Some fault) value x e = absurd cc

-- what is read does not lack
pub never : {A : Type 0} (x : A) (lack : CentreLineLack) → done x ≡ Err lack → ⊥
never x lack e = cc

pub unless_err : {A F : Type 0} (lack other : CentreLineLack) (fault : Option F) (value : A) → unless lack fault value ≡ Err other → (f : F) × (fault ≡ Some f) × (other ≡ lack)
unless_err lack other None value e = absurd (never value other e)
unless_err {A = A} lack other (Some fault) value e = (fault, refl, sym (err_is {A = A} lack other e))
