-- A walk, by what names read and by what comes next (RFC 1157, 4.1.3).
use Rattle.std.specs.Prelude.{◌≡◌, ℕ, Bool, true, List, Option, Some, None}
use Rattle.dms_wire_ber.specs.NameOrder.{is_before}
use Rattle.dms_wire.specs.Message.{ObjectValue, VarBind}

-- the binding reads its name's value and comes after a name, and of what is between them nothing is read
pub record IsNext (reads : List ℕ → Option ObjectValue) (name : List ℕ) (b : VarBind) : Type 0 where
  pub value : reads b.name ≡ Some b.value
  pub after : is_before name b.name ≡ true
  pub first : (other : List ℕ) → is_before name other ≡ true → is_before other b.name ≡ true → reads other ≡ None

-- it is what comes next after a name, or nothing that is read comes after that
abbrev pub Follows : (List ℕ → Option ObjectValue) → List ℕ → Option VarBind → Type 0
Follows reads name None = (other : List ℕ) → is_before name other ≡ true → reads other ≡ None
Follows reads name (Some b) = IsNext reads name b

-- From any name the walk goes to the next one that is read.
abbrev pub IsWalk : (List ℕ → Option ObjectValue) → (List ℕ → Option VarBind) → Type 0
IsWalk reads follows = (name : List ℕ) → Follows reads name (follows name)
