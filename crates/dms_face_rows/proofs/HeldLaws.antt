-- A page that is laid out in place keeps its lines as more characters come.
use Rattle.std.proofs.Common.{◌≡◌, ℕ, ◌-◌, ◌≤◌, Bool, true, List, [], ◌∷◌, ◌++◌, length, map, take, drop, refl, sym, ap, ◌∙◌, arith, length-append}
use Rattle.std.specs.Prelude.{nat_le, slice_range}
use Rattle.std.specs.List.{list_all, list_any}
use Rattle.std.proofs.lemmas.Bool.{and_parts, and_from, leb-true, le-leb, cases_Bool}
use Rattle.std.proofs.lemmas.List.{take-append-le, drop-append-le, take_all, length-drop}
use Rattle.dms_face.specs.Layout.{Character, Line}
use Rattle.dms_face_rows.specs.declared.held.HeldLine.{HeldLine}
use Rattle.dms_face_rows.specs.Held.{line_of, is_inside}

-- what stands in front stays
range_kept : {A : Type 0} (xs more : List A) (a b : ℕ) → a ≤ b → b ≤ length xs → slice_range (xs ++ more) a b ≡ slice_range xs a b
range_kept xs more a b ordered inside =
    ap (take (b - a)) (drop-append-le a xs more (omega arith))
    ∙ take-append-le (b - a) (drop a xs) more (omega (arith, length-drop a xs))

-- the last ones, and one more
pub range_more : {A : Type 0} (xs : List A) (x : A) (a : ℕ) → a ≤ length xs → slice_range (xs ++ x ∷ []) a (length (xs ++ x ∷ [])) ≡ slice_range xs a (length xs) ++ x ∷ []
range_more xs x a inside =
    ap (take (length (xs ++ x ∷ []) - a)) (drop-append-le a xs (x ∷ []) inside)
    ∙ take_all (length (xs ++ x ∷ []) - a) (drop a xs ++ x ∷ []) (omega (arith, length-append (drop a xs) (x ∷ []), length-append xs (x ∷ []), length-drop a xs))
    ∙ ap (λ l. l ++ x ∷ []) (sym (take_all (length xs - a) (drop a xs) (omega (arith, length-drop a xs))))

pub lines_kept : (xs more : List Character) (lines : List HeldLine) → list_all (is_inside (length xs)) lines ≡ true → map (line_of (xs ++ more)) lines ≡ map (line_of xs) lines
lines_kept xs more [] all = refl
lines_kept xs more (line ∷ lines) all =
    let parts = and_parts (is_inside (length xs) line) (list_all (is_inside (length xs)) lines) all in
    let ends = and_parts (nat_le line.first line.past) (nat_le line.past (length xs)) parts.0 in
    let same : line_of (xs ++ more) line ≡ line_of xs line =
    ap (λ (characters : List Character). let made : Line = record { characters = characters; part = line.part; font = line.font.now; gap = line.gap } in made)
    (range_kept xs more line.first line.past (leb-true _ _ ends.0) (leb-true _ _ ends.1)) in
    ap (λ (first : Line). first ∷ map (line_of (xs ++ more)) lines) same ∙ ap (λ rest. line_of xs line ∷ rest) (lines_kept xs more lines parts.1)

pub inside_kept : (n m : ℕ) (lines : List HeldLine) → n ≤ m → list_all (is_inside n) lines ≡ true → list_all (is_inside m) lines ≡ true
inside_kept n m [] less all = refl
inside_kept n m (line ∷ lines) less all =
    let parts = and_parts (is_inside n line) (list_all (is_inside n) lines) all in
    let ends = and_parts (nat_le line.first line.past) (nat_le line.past n) parts.0 in
    and_from _ _ (and_from _ _ ends.0 (le-leb line.past m (omega (arith, leb-true _ _ ends.1, less)))) (inside_kept n m lines less parts.1)

pub any_of : {A B : Type 0} (p : B → Bool) (f : A → B) (xs : List A) → list_any p (map f xs) ≡ list_any (λ x. p (f x)) xs
any_of p f [] = refl
any_of p f (x ∷ xs) = grind (arith, cases_Bool, any_of p f xs)

pub ruleset holding = (range_more, lines_kept, inside_kept)
