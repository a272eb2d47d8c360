-- The name that the first of some rows has, for an object under a number in a group.
use Rattle.std.proofs.Common.{◌≡◌, zero, suc, cond, ◌<◌, ◌≤◌, ◌+◌, ℕ, Bool, true, false, List, [], ◌∷◌, length, map, drop, find, get_or, Option, Some, None, Bor, refl, ap, sym, ◌∙◌, arith}
use Rattle.std.specs.Prelude.{All, IfSome}
use Rattle.std.specs.Option.{option_map}
use Rattle.std.proofs.lemmas.Bool.Decides.{nat_tests}
use Rattle.std.proofs.lemmas.List.{at_drop_more, at_drop_all}
use Rattle.std.proofs.lemmas.List.Elements.{All-cons, All-nil}
use Rattle.dms_mib.specs.declared.objects.Group.{Group}
use Rattle.dms_mib.specs.declared.objects.Object.{Object}
use Rattle.signtool_print.specs.ObjectNames.{IsName, HasNone, name_among, same_group, stands_at}

-- ---- row by row

-- the name of a row that is found
abbrev named : Option (List ℕ × Object) → Option (List ℕ)
named found = option_map (λ (row : List ℕ × Object). row.0) found

-- the row that is found among others
abbrev found_among : List (List ℕ × Object) → Group → ℕ → Option (List ℕ × Object)
found_among rows group number = find (λ (row : List ℕ × Object). stands_at row.1 group number) rows

-- the rows of a slice
abbrev seen : List (Bor (List ℕ) × Object) → List (List ℕ × Object)
seen rows = map (λ (row : Bor (List ℕ) × Object). (row.0.now, row.1)) rows

-- what is found among the rows from one on
abbrev from_this : Bor (List ℕ) × Object → List (Bor (List ℕ) × Object) → Group → ℕ → Bool → Option (List ℕ)
from_this row more group number here = named (cond here (Some (row.0.now, row.1)) (found_among (seen more) group number))

-- the name by the rows that a slice has from a place on
abbrev pub from_row : List (Bor (List ℕ) × Object) → Group → ℕ → Option (List ℕ)
from_row rows group number = name_among (seen rows) group number

pub found_here : (rows : List (Bor (List ℕ) × Object)) (i : ℕ) (d : Bor (List ℕ) × Object) (group : Group) (number : ℕ) → i < length rows
    → stands_at (get_or rows i d).1 group number ≡ true → from_row (drop i rows) group number ≡ from_row rows group number
    → Some (get_or rows i d).0.now ≡ from_row rows group number
found_here rows i d group number below here so_far =
    ap (from_this (get_or rows i d) (drop (i + 1) rows) group number) (sym here)
    ∙ sym (at_drop_more (λ r. from_row r group number) rows i d below) ∙ so_far

pub found_later : (rows : List (Bor (List ℕ) × Object)) (i : ℕ) (d : Bor (List ℕ) × Object) (group : Group) (number : ℕ) → i < length rows
    → stands_at (get_or rows i d).1 group number ≡ false → from_row (drop i rows) group number ≡ from_row rows group number
    → from_row (drop (i + 1) rows) group number ≡ from_row rows group number
found_later rows i d group number below here so_far =
    ap (from_this (get_or rows i d) (drop (i + 1) rows) group number) (sym here)
    ∙ sym (at_drop_more (λ r. from_row r group number) rows i d below) ∙ so_far

pub found_nowhere : (rows : List (Bor (List ℕ) × Object)) (i : ℕ) (group : Group) (number : ℕ) → length rows ≤ i
    → from_row (drop i rows) group number ≡ from_row rows group number → None ≡ from_row rows group number
found_nowhere rows i group number all so_far = sym (at_drop_all (λ r. from_row r group number) rows i all) ∙ so_far

pub ruleset rows = (found_here, found_later, found_nowhere)

-- ---- what the name says

pub same_groups : (one other : Group) → same_group one other ≡ true → one ≡ other
same_groups one other same = grind arith

is_same : (group : Group) → same_group group group ≡ true
is_same group = grind arith

stands : (object : Object) (group : Group) (number : ℕ) → stands_at object group number ≡ true → (object.group ≡ group) × (object.number ≡ number)
stands object group number at = (same_groups object.group group (grind arith), grind (arith, nat_tests))

stands_not : (object : Object) (group : Group) (number : ℕ) → stands_at object group number ≡ false → object.group ≡ group → object.number ≡ number → ⊥
stands_not object group number at one other = grind (arith, nat_tests, is_same)

named_first : (b : Bool) (row : List ℕ × Object) (more : List (List ℕ × Object)) (group : Group) (number : ℕ) (name : List ℕ) → stands_at row.1 group number ≡ b
    → Some name ≡ named (cond b (Some row) (found_among more group number)) → (Some name ≡ name_among more group number → IsName more group number name)
    → IsName (row ∷ more) group number name
named_first true row more group number name at is later =
    let here = stands row.1 group number at in
    let same : row.0 ≡ name = cc in
    (zero, row.1, ap (λ (x : List ℕ). Some (x, row.1)) same, here.0, here.1)
named_first false row more group number name at is later =
    let found = later is in
    (suc found.0, found.1, found.2, found.3, found.4)

pub named_is : (rows : List (List ℕ × Object)) (group : Group) (number : ℕ) (name : List ℕ) → Some name ≡ name_among rows group number → IsName rows group number name
named_is [] group number name is = absurd (cc)
named_is (row ∷ more) group number name is =
    named_first (stands_at row.1 group number) row more group number name refl is (λ later. named_is more group number name later)

none_first : (b : Bool) (row : List ℕ × Object) (more : List (List ℕ × Object)) (group : Group) (number : ℕ) → stands_at row.1 group number ≡ b
    → None ≡ named (cond b (Some row) (found_among more group number)) → (None ≡ name_among more group number → HasNone more group number) → HasNone (row ∷ more) group number
none_first true row more group number at is later = absurd (cc)
none_first false row more group number at is later =
    All-cons (λ (row : List ℕ × Object). (row.1.group ≡ group) → (row.1.number ≡ number) → ⊥) row more (stands_not row.1 group number at) (later is)

pub named_not : (rows : List (List ℕ × Object)) (group : Group) (number : ℕ) → None ≡ name_among rows group number → HasNone rows group number
named_not [] group number is = All-nil (λ (row : List ℕ × Object). (row.1.group ≡ group) → (row.1.number ≡ number) → ⊥)
named_not (row ∷ more) group number is =
    none_first (stands_at row.1 group number) row more group number refl is (λ later. named_not more group number later)

-- ---- of what is found

pub is_name : (rows : List (List ℕ × Object)) (group : Group) (number : ℕ) (found : Option (Bor (List ℕ))) → option_map (λ name. name.now) found ≡ name_among rows group number
    → IfSome found (λ name. IsName rows group number name.now)
is_name rows group number None is = tt
is_name rows group number (Some name) is = named_is rows group number name.now is

pub has_none : (rows : List (List ℕ × Object)) (group : Group) (number : ℕ) (found : Option (Bor (List ℕ))) → option_map (λ name. name.now) found ≡ name_among rows group number
    → found ≡ None → HasNone rows group number
has_none rows group number None is none = named_not rows group number is
has_none rows group number (Some name) is none = absurd (cc)
