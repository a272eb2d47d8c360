-- What holds of each element of a list, or of the value that there may be; lists with their numbers.
use Rattle.std.proofs.Common.{◌≡◌, ℕ, suc, ◌+◌, ◌<◌, Bool, cond, List, [], ◌∷◌, ◌++◌, length, take, get_or, find, Option, Some, unwrap_or, sym, ap, ◌∙◌, arith}
use Rattle.std.specs.Option.{IfSome}
use Rattle.std.specs.List.{AllByRecursion, enumerate_from}
use Rattle.std.proofs.lemmas.List.{take_more, length-take-le}

pub if_either : {X : Type 0} (P : X → Type 0) (b : Bool) (o p : Option X) → IfSome o P → IfSome p P → IfSome (cond b o p) P
if_either P b o p first second = grind arith

pub if_or : {X : Type 0} (P : X → Type 0) (o : Option X) (x : X) → IfSome o P → P x → P (unwrap_or o x)
if_or P o x some other = grind arith

pub if_found : {X : Type 0} (P : X → Type 0) (test : X → Bool) (xs : List X) → AllByRecursion P xs → IfSome (find test xs) P
if_found P test [] all = tt
if_found P test (x ∷ xs) all = if_either P (test x) (Some x) (find test xs) all.0 (if_found P test xs all.1)

pub all_append : {X : Type 0} (P : X → Type 0) (xs ys : List X) → AllByRecursion P xs → AllByRecursion P ys → AllByRecursion P (xs ++ ys)
all_append P [] ys first second = second
all_append P (x ∷ xs) ys first second = (first.0, all_append P xs ys first.1 second)

numbered_push : {A : Type 0} (first : ℕ) (xs : List A) (x : A) → enumerate_from first (xs ++ x ∷ []) ≡ enumerate_from first xs ++ (first + length xs, x) ∷ []
numbered_push first [] x = let same : first ≡ first + 0 = omega arith in ap (λ n. (n, x) ∷ []) same
numbered_push first (y ∷ xs) x =
    let same : (first + 1) + length xs ≡ first + suc (length xs) = omega arith in
    ap (λ rest. (first, y) ∷ rest) (numbered_push (first + 1) xs x ∙ ap (λ n. enumerate_from (first + 1) xs ++ (n, x) ∷ []) same)

pub numbered_more : {A : Type 0} (xs : List A) (n : ℕ) (other : A) → n < length xs
    → enumerate_from 1 (take n xs) ++ (n + 1, get_or xs n other) ∷ [] ≡ enumerate_from 1 (take (n + 1) xs)
numbered_more xs n other less =
    let size : length (take n xs) ≡ n = length-take-le n xs (omega (arith, less)) in
    let number : n + 1 ≡ 1 + length (take n xs) = omega (arith, size) in
    ap (λ k. enumerate_from 1 (take n xs) ++ (k, get_or xs n other) ∷ []) number
    ∙ sym (numbered_push 1 (take n xs) (get_or xs n other))
    ∙ ap (enumerate_from 1) (sym (take_more xs n other less))
