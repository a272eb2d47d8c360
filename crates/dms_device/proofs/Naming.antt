-- A walk over the bindings of a Set that looks whether each name is that of an object.
use Rattle.std.proofs.Common.{◌≡◌, ◌&&◌, ℕ, zero, suc, ◌+◌, ◌<◌, Bool, true, false, List, [], ◌∷◌, length, refl, sym, ap, ◌∙◌, arith}
use Rattle.std.specs.List.{list_all, list_any}
use Rattle.dms_wire.specs.Message.{VarBind}
use Rattle.dms_device.specs.Object.{DeviceObject}
use Rattle.dms_device.specs.Objects.{has_name, rises}
use Rattle.dms_device.specs.Setting.{is_named, are_all_named}
use Rattle.dms_device.proofs.Found.{HasNameAt, found_there, none_found}

-- ---- one name

pub named_there : (objects : List DeviceObject) (b : VarBind) (k : ℕ) → rises objects ≡ true → k < length objects
    → HasNameAt b.name objects k → is_named objects b ≡ true
named_there [] b k r lt found = absurd (omega arith)
named_there (x ∷ xs) b k r lt found = rw (found_there b.name (x ∷ xs) k x r lt (found x)) refl

pub named_none : (objects : List DeviceObject) (b : VarBind) → list_any (has_name b.name) objects ≡ false → is_named objects b ≡ false
named_none objects b none = rw (none_found (has_name b.name) objects none) refl

-- ---- one after the other

-- the names up to an index are those of objects
pub record NamedSoFar (objects : List DeviceObject) (index : ℕ) (rest all : List VarBind) : Type 0 where
  pub first : index ≡ 0 → are_all_named objects rest ≡ are_all_named objects all
  pub later : 0 < index → list_all (is_named objects) rest ≡ are_all_named objects all

pub named_starts : (objects : List DeviceObject) (rest all : List VarBind) → rest ≡ all → NamedSoFar objects 0 rest all
named_starts objects rest all e = record { first = λ z. ap (are_all_named objects) e; later = λ lt. absurd (omega arith) }

-- what is to be found of the names from the next one on
from_next : (objects : List DeviceObject) (index : ℕ) (rest all : List VarBind) (b : VarBind) (more : List VarBind) → NamedSoFar objects index rest all
    → rest ≡ b ∷ more → (is_named objects b && list_all (is_named objects) more) ≡ are_all_named objects all
from_next objects zero rest all b more h e = sym (ap (are_all_named objects) e) ∙ h.first (omega arith)
from_next objects (suc k) rest all b more h e = sym (ap (list_all (is_named objects)) e) ∙ h.later (omega arith)

pub named_rest : (objects : List DeviceObject) (index : ℕ) (rest all : List VarBind) (b : VarBind) (more : List VarBind)
    → NamedSoFar objects index rest all → rest ≡ b ∷ more → is_named objects b ≡ true
    → list_all (is_named objects) more ≡ are_all_named objects all
named_rest objects index rest all b more h e is =
    sym (ap (λ t. t && list_all (is_named objects) more) is) ∙ from_next objects index rest all b more h e

pub named_more : (objects : List DeviceObject) (index : ℕ) (rest all : List VarBind) (b : VarBind) (more : List VarBind)
    → NamedSoFar objects index rest all → rest ≡ b ∷ more → is_named objects b ≡ true → NamedSoFar objects (index + 1) more all
named_more objects index rest all b more h e is = record {
  first = λ z. absurd (omega arith);
  later = λ lt. named_rest objects index rest all b more h e is;
}

pub named_not : (objects : List DeviceObject) (index : ℕ) (rest all : List VarBind) (b : VarBind) (more : List VarBind)
    → NamedSoFar objects index rest all → rest ≡ b ∷ more → is_named objects b ≡ false → false ≡ are_all_named objects all
named_not objects index rest all b more h e is =
    sym (ap (λ t. t && list_all (is_named objects) more) is) ∙ from_next objects index rest all b more h e

pub named_nothing : (objects : List DeviceObject) (index : ℕ) (rest all : List VarBind) → NamedSoFar objects index rest all → rest ≡ []
    → index ≡ 0 → false ≡ are_all_named objects all
named_nothing objects index rest all h e z = sym (ap (are_all_named objects) e) ∙ h.first z

pub named_all : (objects : List DeviceObject) (index : ℕ) (rest all : List VarBind) → NamedSoFar objects index rest all → rest ≡ []
    → 0 < index → true ≡ are_all_named objects all
named_all objects index rest all h e lt = sym (ap (list_all (is_named objects)) e) ∙ h.later lt

-- ---- names of which it is not told how many there are

pub others_named : (objects : List DeviceObject) (rest all : List VarBind) (b : VarBind) (more : List VarBind)
    → list_all (is_named objects) rest ≡ list_all (is_named objects) all → rest ≡ b ∷ more → is_named objects b ≡ true
    → list_all (is_named objects) more ≡ list_all (is_named objects) all
others_named objects rest all b more h e is =
    sym (ap (λ t. t && list_all (is_named objects) more) is) ∙ sym (ap (list_all (is_named objects)) e) ∙ h

pub one_not : (objects : List DeviceObject) (rest all : List VarBind) (b : VarBind) (more : List VarBind)
    → list_all (is_named objects) rest ≡ list_all (is_named objects) all → rest ≡ b ∷ more → is_named objects b ≡ false
    → false ≡ list_all (is_named objects) all
one_not objects rest all b more h e is =
    sym (ap (λ t. t && list_all (is_named objects) more) is) ∙ sym (ap (list_all (is_named objects)) e) ∙ h
