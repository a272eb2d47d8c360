-- Texts of many things, put into a buffer one after the other.
use Rattle.std.proofs.Common.{◌≡◌, ℕ, ◌≤◌, List, [], ◌∷◌, ◌++◌, flat_map, length, sym, ap, ◌∙◌, append_assoc, append-nil}
use Rattle.dms_text_filling.specs.Filling.{most_counted, Puts}
use Rattle.dms_text_filling.proofs.Parts.{nothing, two, same}

pub flat_push : {X : Type 0} (f : X → List ℕ) (xs : List X) (x : X) → flat_map f xs ++ f x ≡ flat_map f (xs ++ x ∷ [])
flat_push f [] x = sym (append-nil (f x))
flat_push f (y ∷ xs) x = append_assoc (f y) (flat_map f xs) (f x) ∙ ap (λ rest. f y ++ rest) (flat_push f xs x)

-- the texts of the first are put, and those of the rest are not
abbrev pub Begun : {X : Type 0} (f : X → List ℕ) (all rest : List X) (from : ℕ) (before : List ℕ) (to : ℕ) (after : List ℕ) → Type 0
Begun {X} f all rest from before to after = (done : List X) × (done ++ rest ≡ all) × Puts (flat_map f done) from before to after

pub none_put : {X : Type 0} (f : X → List ℕ) (all rest : List X) (place : ℕ) (buffer : List ℕ) → rest ≡ all → place ≤ most_counted → length buffer ≤ most_counted
    → Begun f all rest place buffer place buffer
none_put f all rest place buffer is counts reach = ([], is, nothing place buffer counts reach)

pub one_more : {X : Type 0} (f : X → List ℕ) (all rest others : List X) (x : X) (from to next : ℕ) (before middle after : List ℕ) → Begun f all rest from before to middle
    → rest ≡ x ∷ others → Puts (f x) to middle next after → Begun f all others from before next after
one_more f all rest others x from to next before middle after begun is more = (
  begun.0 ++ x ∷ [],
  append_assoc begun.0 (x ∷ []) others ∙ ap (λ rest. begun.0 ++ rest) (sym is) ∙ begun.1,
  same (flat_push f begun.0 x) (two begun.2 more),
)

pub all_put : {X : Type 0} (f : X → List ℕ) (all rest : List X) (from to : ℕ) (before after : List ℕ) → Begun f all rest from before to after → rest ≡ []
    → Puts (flat_map f all) from before to after
all_put f all rest from to before after begun is =
    same (ap (flat_map f) (sym (append-nil begun.0) ∙ ap (λ rest. begun.0 ++ rest) (sym is) ∙ begun.1)) begun.2
