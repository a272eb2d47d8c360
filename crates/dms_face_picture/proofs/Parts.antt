-- A text that is put in parts.
use Rattle.std.proofs.Common.{◌≡◌, ℕ, List, ◌++◌, ap, ◌∙◌, append_assoc, Result, Ok, Err, OnOk}

pub two_parts : (old first last a b : List ℕ) → first ≡ old ++ a → last ≡ first ++ b → last ≡ old ++ (a ++ b)
two_parts old first last a b one two = two ∙ ap (λ xs. xs ++ b) one ∙ grouped
  where
    grouped : (old ++ a) ++ b ≡ old ++ (a ++ b)
    grouped = simp append_assoc

pub three_parts : (old first second last a b c : List ℕ) → first ≡ old ++ a → second ≡ first ++ b → last ≡ second ++ c → last ≡ old ++ (a ++ b ++ c)
three_parts old first second last a b c one two three = three ∙ ap (λ xs. xs ++ c) (two ∙ ap (λ xs. xs ++ b) one) ∙ grouped
  where
    grouped : ((old ++ a) ++ b) ++ c ≡ old ++ (a ++ b ++ c)
    grouped = simp append_assoc

pub four_parts : (old first second third last a b c d : List ℕ) → first ≡ old ++ a → second ≡ first ++ b → third ≡ second ++ c → last ≡ third ++ d
    → last ≡ old ++ (a ++ b ++ c ++ d)
four_parts old first second third last a b c d one two three four =
    four ∙ ap (λ xs. xs ++ d) (three ∙ ap (λ xs. xs ++ c) (two ∙ ap (λ xs. xs ++ b) one)) ∙ grouped
  where
    grouped : (((old ++ a) ++ b) ++ c) ++ d ≡ old ++ (a ++ b ++ c ++ d)
    grouped = simp append_assoc

pub five_parts : (old first second third fourth last a b c d e : List ℕ) → first ≡ old ++ a → second ≡ first ++ b → third ≡ second ++ c → fourth ≡ third ++ d
    → last ≡ fourth ++ e → last ≡ old ++ (a ++ b ++ c ++ d ++ e)
five_parts old first second third fourth last a b c d e one two three four five =
    five ∙ ap (λ xs. xs ++ e) (four ∙ ap (λ xs. xs ++ d) (three ∙ ap (λ xs. xs ++ c) (two ∙ ap (λ xs. xs ++ b) one))) ∙ grouped
  where
    grouped : ((((old ++ a) ++ b) ++ c) ++ d) ++ e ≡ old ++ (a ++ b ++ c ++ d ++ e)
    grouped = simp append_assoc

pub OnOk-map : {X E : Type 0} (r : Result X E) (P Q : Type 0) → (P → Q) → OnOk r P → OnOk r Q
OnOk-map (Ok x) P Q f h = f h
OnOk-map (Err e) P Q f h = tt
