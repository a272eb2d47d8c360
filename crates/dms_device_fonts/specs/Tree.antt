-- Objects by the numbers of their names: a tree of numbers.
use Rattle.std.specs.Prelude.{ℕ, zero, suc, ◌+◌, ◌-◌, ◌&&◌, nat_le, nat_lt, if◌then◌else◌, List, [], ◌∷◌}
use Rattle.std.specs.Prelude.{Option, Some, None, option_map}
use Rattle.dms_wire.specs.Message.{ObjectValue, VarBind}

-- a leaf reads a value, or nothing; below a span stand trees at the numbers from `least` on, so many of them
pub data Tree : Type 0 where
  Leaf : Option ObjectValue → Tree
  Span : (least count : ℕ) → (ℕ → Tree) → Tree

-- what the numbers read
abbrev pub tree_value : Tree → List ℕ → Option ObjectValue
tree_value (Leaf value) [] = value
tree_value (Leaf value) (n ∷ numbers) = None
tree_value (Span least count at) [] = None
tree_value (Span least count at) (n ∷ numbers) =
    if nat_le least n && nat_lt n (least + count) then tree_value (at n) numbers else None

-- the first that there is
abbrev pub or_first : Option VarBind → Option VarBind → Option VarBind
or_first (Some one) other = Some one
or_first None other = other

-- a binding below a number
abbrev pub below : ℕ → VarBind → VarBind
below n b = record { name = n ∷ b.name; value = b.value }

-- the first of so many options from a number on
abbrev pub first_from : (ℕ → Option VarBind) → ℕ → ℕ → Option VarBind
first_from first n zero = None
first_from first n (suc count) = or_first (option_map (below n) (first n)) (first_from first (n + 1) count)

-- the first instance of a tree
abbrev pub tree_first : Tree → Option VarBind
tree_first (Leaf value) = option_map (λ (v : ObjectValue). record { name = []; value = v }) value
tree_first (Span least count at) = first_from (λ n. tree_first (at n)) least count

-- the first instance after numbers
abbrev pub tree_after : Tree → List ℕ → Option VarBind
tree_after (Leaf value) numbers = None
tree_after (Span least count at) [] = first_from (λ n. tree_first (at n)) least count
tree_after (Span least count at) (n ∷ numbers) =
    if nat_lt n least then first_from (λ n. tree_first (at n)) least count
    else if nat_lt n (least + count) then
    or_first (option_map (below n) (tree_after (at n) numbers))
    (first_from (λ n. tree_first (at n)) (n + 1) (least + count - (n + 1)))
    else None

-- a tree below a name
abbrev pub under : List ℕ → Tree → Tree
under [] tree = tree
under (n ∷ numbers) tree = Span n 1 (λ _. under numbers tree)
