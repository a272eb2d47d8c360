-- Texts that grow by one piece for each number, or for each thing of a list.
use Rattle.std.proofs.Common.{◌≡◌, ℕ, zero, suc, ◌+◌, ◌<◌, List, [], ◌∷◌, ◌++◌, length, take, get_or, flat_map, sym, ap, ◌∙◌, arith}
use Rattle.std.specs.List.{range_with_len, enumerate_from}
use Rattle.std.proofs.lemmas.List.{flat_map_more}
use Rattle.dms_face.proofs.Lists.{numbered_more}

-- ---- numbers

range_suc : (a n : ℕ) → range_with_len a (suc n) ≡ range_with_len a n ++ (a + n) ∷ []
range_suc a zero = let same : a ≡ a + 0 = omega arith in ap (λ x. x ∷ []) same
range_suc a (suc n) =
    let same : (a + 1) + n ≡ a + suc n = omega arith in
    ap (λ xs. a ∷ xs) (range_suc (a + 1) n ∙ ap (λ x. range_with_len (a + 1) n ++ x ∷ []) same)

range_more : (n : ℕ) → range_with_len 0 n ++ n ∷ [] ≡ range_with_len 0 (n + 1)
range_more n =
    let number : n ≡ 0 + n = omega arith in
    let count : suc n ≡ n + 1 = omega arith in
    ap (λ x. range_with_len 0 n ++ x ∷ []) number ∙ sym (range_suc 0 n) ∙ ap (range_with_len 0) count

-- the text of one number more
pub number_more : (text : ℕ → List ℕ) (n : ℕ) (old now next : List ℕ) → now ≡ old ++ flat_map text (range_with_len 0 n) → next ≡ now ++ text n
    → next ≡ old ++ flat_map text (range_with_len 0 (n + 1))
number_more text n old now next so_far more =
    more ∙ ap (λ xs. xs ++ text n) so_far ∙ flat_map_more text old (range_with_len 0 n) n ∙ ap (λ xs. old ++ flat_map text xs) (range_more n)

-- ---- things, each with its number

-- the text of one thing more
pub thing_more : {A : Type 0} (text : ℕ × A → List ℕ) (xs : List A) (n : ℕ) (x : A) (old now next : List ℕ) → n < length xs → x ≡ get_or xs n x
    → now ≡ old ++ flat_map text (enumerate_from 1 (take n xs)) → next ≡ now ++ text (n + 1, x)
    → next ≡ old ++ flat_map text (enumerate_from 1 (take (n + 1) xs))
thing_more text xs n x old now next less is so_far more =
    more
    ∙ ap (λ written. written ++ text (n + 1, x)) so_far
    ∙ flat_map_more text old (enumerate_from 1 (take n xs)) (n + 1, x)
    ∙ ap (λ y. old ++ flat_map text (enumerate_from 1 (take n xs) ++ (n + 1, y) ∷ [])) is
    ∙ ap (λ xs. old ++ flat_map text xs) (numbered_more xs n x less)
