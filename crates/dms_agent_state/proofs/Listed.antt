-- A name that is put into a buffer number by number, and a list without its first.
use Rattle.std.proofs.Common.{◌≡◌, ℕ, ◌-◌, ◌<◌, List, [], ◌∷◌, ◌++◌, codes, decimal, flat_map, length, take, drop, get_or, sym, ap, ◌∙◌, append_assoc, arith}
use Rattle.std.proofs.lemmas.List.{take_rest}
use Rattle.dms_wire_ber.specs.NameText.{dotted}
use Rattle.dms_text_filling.specs.Filling.{Puts}
use Rattle.dms_text_filling.proofs.Parts.{two, same}
use Rattle.dms_text_filling.proofs.Many.{flat_push, none_put, all_put}

-- a number more of a name
pub name_more : (first number : ℕ) (done : List ℕ) {from to next : ℕ} {before middle after : List ℕ} → Puts (dotted (first ∷ done)) from before to middle
    → Puts (codes "." ++ decimal number) to middle next after → Puts (dotted (first ∷ (done ++ number ∷ []))) from before next after
name_more first number done one other =
    same (append_assoc (decimal first) (flat_map (λ m. codes "." ++ decimal m) done) (codes "." ++ decimal number)
    ∙ ap (λ rest. decimal first ++ rest) (flat_push (λ m. codes "." ++ decimal m) done number)) (two one other)

-- what is left behind the first
pub first_left : {X : Type 0} (xs : List X) (x : X) → 0 < length xs → x ≡ get_or xs 0 x → xs ≡ x ∷ take (length xs - 1) (drop 1 xs)
first_left xs x some is = first xs x some is ∙ ap (λ rest. x ∷ rest) (sym (take_rest xs 1))
  where
    first : {X : Type 0} (xs : List X) (x : X) → 0 < length xs → x ≡ get_or xs 0 x → xs ≡ x ∷ drop 1 xs
    first [] x some is = absurd (omega arith)
    first (y ∷ ys) x some is = ap (λ first. first ∷ ys) (sym is)

pub ruleset lists = (none_put, all_put)
