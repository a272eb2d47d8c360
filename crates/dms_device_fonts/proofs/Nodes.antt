-- A tree below a name.
use Rattle.std.proofs.Common.{◌≡◌, ℕ, ◌+◌, ◌-◌, ◌<◌, ◌≤◌, List, [], ◌∷◌, Option, Some, None, refl, sym, ap, subst, ◌∙◌, arith}
use Rattle.std.specs.Prelude.{option_map}
use Rattle.dms_wire.specs.Message.{ObjectValue, VarBind}
use Rattle.dms_device_fonts.specs.Tree.{Tree, Span, tree_value, tree_first, tree_after, first_from, or_first, below, under}
use Rattle.dms_device_fonts.specs.View.{placed, side_after}
use Rattle.dms_device_fonts.specs.declared.steps.NodeSide.{NodeSide}
use Rattle.dms_device_fonts.specs.declared.steps.NodeSide.TheVariants.{Before, Under, After}
use Rattle.dms_device_fonts.proofs.Spans.{none_left}

pub only_one : (o : Option VarBind) → or_first o None ≡ o
only_one None = refl
only_one (Some b) = refl

placed_below : (n : ℕ) (node : List ℕ) (o : Option VarBind) → option_map (below n) (option_map (placed node) o) ≡ option_map (placed (n ∷ node)) o
placed_below n node None = refl
placed_below n node (Some b) = refl

placed_nowhere : (o : Option VarBind) → o ≡ option_map (placed []) o
placed_nowhere None = refl
placed_nowhere (Some b) = refl

first_under : (node : List ℕ) (tree : Tree) → tree_first (under node tree) ≡ option_map (placed node) (tree_first tree)
first_under [] tree = placed_nowhere (tree_first tree)
first_under (n ∷ node) tree =
    only_one (option_map (below n) (tree_first (under node tree))) ∙ ap (option_map (below n)) (first_under node tree) ∙ placed_below n node (tree_first tree)

pub first_after : (node others numbers : List ℕ) (first : ℕ) (tree : Tree) → node ≡ first ∷ others
    → tree_after (Span first 1 (λ _. under others tree)) numbers ≡ first_from (λ _. tree_first (under others tree)) first 1
    → tree_after (under node tree) numbers ≡ option_map (placed node) (tree_first tree)
first_after node others numbers first tree is e =
    subst (λ ns. tree_after (under ns tree) numbers ≡ option_map (placed ns) (tree_first tree)) (sym is) (e ∙ first_under (first ∷ others) tree)

pub alike_value : (node others numbers : List ℕ) (first : ℕ) (tree : Tree) (o : Option ObjectValue) → node ≡ first ∷ others
    → tree_value (Span first 1 (λ _. under others tree)) numbers ≡ o → tree_value (under node tree) numbers ≡ o
alike_value node others numbers first tree o is e = subst (λ ns. tree_value (under ns tree) numbers ≡ o) (sym is) e

pub alike_after : (node others numbers : List ℕ) (first : ℕ) (tree : Tree) (o : Option VarBind) → node ≡ first ∷ others
    → tree_after (Span first 1 (λ _. under others tree)) numbers ≡ o → tree_after (under node tree) numbers ≡ o
alike_after node others numbers first tree o is e = subst (λ ns. tree_after (under ns tree) numbers ≡ o) (sym is) e

side_below : (n : ℕ) (node : List ℕ) (tree : Tree) (side : NodeSide) → option_map (below n) (side_after node tree side) ≡ side_after (n ∷ node) tree side
side_below n node tree Before = placed_below n node (tree_first tree)
side_below n node tree (Under numbers) = placed_below n node (tree_after tree numbers)
side_below n node tree After = refl

pub inside_after : (node others numbers rest : List ℕ) (first number : ℕ) (tree : Tree) (side : NodeSide) → node ≡ first ∷ others → first ≤ number → number < first + 1
    → tree_after (Span first 1 (λ _. under others tree)) numbers
    ≡ or_first (option_map (below number) (tree_after (under others tree) rest)) (first_from (λ _. tree_first (under others tree)) (number + 1) (first + 1 - (number + 1)))
    → tree_after (under others tree) rest ≡ side_after others tree side → tree_after (under node tree) numbers ≡ side_after node tree side
inside_after node others numbers rest first number tree side is low high e found =
    let same : number ≡ first = omega arith in
    subst (λ ns. tree_after (under ns tree) numbers ≡ side_after ns tree side) (sym is) (
    e ∙ ap (or_first (option_map (below number) (tree_after (under others tree) rest))) (none_left (λ _. tree_first (under others tree)) (number + 1) (first + 1) (omega arith))
    ∙ only_one (option_map (below number) (tree_after (under others tree) rest))
    ∙ ap (λ n. option_map (below n) (tree_after (under others tree) rest)) same
    ∙ ap (option_map (below first)) found ∙ side_below first others tree side)
