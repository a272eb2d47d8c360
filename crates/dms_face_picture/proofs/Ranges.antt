-- What a loop over numbers has written so far, with one number more.
use Rattle.std.proofs.Common.{◌≡◌, ◌∙◌, ℕ, suc, zero, ◌+◌, List, [], ◌∷◌, ◌++◌, fold, sym, ap, arith, append_assoc, ◌<◌, length, take, get_or}
use Rattle.std.specs.List.{flat_map, range_with_len}
use Rattle.std.proofs.lemmas.List.{append-nil, flat_map_more, take_more}
use Rattle.std.proofs.lemmas.Grind.{flat_map-append}
use Rattle.std.proofs.lemmas.List.Sums.{fold-append}

pub range_more : (a n : ℕ) → range_with_len a (n + 1) ≡ range_with_len a n ++ (a + n) ∷ []
range_more a zero =
    let one : 0 + 1 ≡ suc 0 = omega arith in
    ap (range_with_len a) one ∙ ap (λ first. first ∷ []) (let same : a ≡ a + 0 = omega arith in same)
range_more a (suc n) =
    let more : suc n + 1 ≡ suc (n + 1) = omega arith in
    let last : a + 1 + n ≡ a + suc n = omega arith in
    ap (range_with_len a) more ∙ ap (λ rest. a ∷ rest) (range_more (a + 1) n ∙ ap (λ last. range_with_len (a + 1) n ++ last ∷ []) last)

-- the text of one number more
pub text_more : (f : ℕ → List ℕ) (a n : ℕ) → flat_map f (range_with_len a (n + 1)) ≡ flat_map f (range_with_len a n) ++ f (a + n)
text_more f a n =
    ap (flat_map f) (range_more a n)
    ∙ flat_map-append f (range_with_len a n) ((a + n) ∷ [])
    ∙ ap (λ last. flat_map f (range_with_len a n) ++ last) (append-nil (f (a + n)))

-- one step more
pub step_more : {A : Type 0} (f : A → ℕ → A) (start : A) (n : ℕ) → fold f start (range_with_len 0 (n + 1)) ≡ f (fold f start (range_with_len 0 n)) n
step_more f start n = ap (fold f start) (range_more 0 n ∙ ap (λ last. range_with_len 0 n ++ last ∷ []) (let same : 0 + n ≡ n = omega arith in same)) ∙ fold-append f start (range_with_len 0 n) (n ∷ [])

-- what was written, with the text of one number more
pub written_more : (f : ℕ → List ℕ) (old out new : List ℕ) (a n j more : ℕ) → a + n ≡ j → n + 1 ≡ more
    → out ≡ old ++ flat_map f (range_with_len a n) → new ≡ out ++ f j → new ≡ old ++ flat_map f (range_with_len a more)
written_more f old out new a n j more last is_more so_far put =
    put
    ∙ ap (λ xs. xs ++ f j) so_far
    ∙ grouped
    ∙ ap (λ xs. old ++ xs) (ap (λ k. flat_map f (range_with_len a n) ++ f k) (sym last) ∙ sym (text_more f a n) ∙ ap (λ k. flat_map f (range_with_len a k)) is_more)
  where
    grouped : (old ++ flat_map f (range_with_len a n)) ++ f j ≡ old ++ (flat_map f (range_with_len a n) ++ f j)
    grouped = simp append_assoc

-- what was written of the items of a list, with one item more
pub items_more : {A : Type 0} (f : A → List ℕ) (old out new : List ℕ) (xs : List A) (i : ℕ) (d : A) → i < length xs
    → out ≡ old ++ flat_map f (take i xs) → new ≡ out ++ f (get_or xs i d) → new ≡ old ++ flat_map f (take (i + 1) xs)
items_more f old out new xs i d inside so_far put =
    put
    ∙ ap (λ text. text ++ f (get_or xs i d)) so_far
    ∙ flat_map_more f old (take i xs) (get_or xs i d)
    ∙ ap (λ items. old ++ flat_map f items) (sym (take_more xs i d inside))
