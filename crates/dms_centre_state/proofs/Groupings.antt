-- The same text, its parts in other brackets.
use Rattle.std.proofs.Common.{◌≡◌, ℕ, List, [], ◌++◌, append_assoc, append-nil}

pub of_field : (name space digits end : List ℕ) → name ++ (space ++ (digits ++ end)) ≡ name ++ space ++ digits ++ end
of_field name space digits end = simp append_assoc

pub of_two : (a b c : List ℕ) → a ++ (b ++ c) ≡ a ++ b ++ c
of_two a b c = simp append_assoc

pub of_three : (a b c d : List ℕ) → a ++ (b ++ (c ++ d)) ≡ a ++ b ++ c ++ d
of_three a b c d = simp append_assoc

pub of_address : (p n a b c d : List ℕ) → (a ++ p) ++ ((b ++ p) ++ ((c ++ p) ++ (d ++ n))) ≡ (a ++ ((p ++ b) ++ ((p ++ c) ++ ((p ++ d) ++ [])))) ++ n
of_address p n a b c d = simp (append_assoc, append-nil)

pub of_publication : (name s memory number text owner beacon pixel run minutes priority address : List ℕ)
    → name ++ ((memory ++ s) ++ ((number ++ s) ++ ((text ++ s) ++ ((owner ++ s) ++ ((beacon ++ s) ++ ((pixel ++ s) ++ ((run ++ s) ++ ((minutes ++ s) ++ ((priority ++ s) ++ address)))))))))
    ≡ (name ++ memory ++ s ++ number) ++ (s ++ text ++ s ++ owner) ++ (s ++ beacon ++ s ++ pixel ++ s ++ run) ++ (s ++ minutes ++ s ++ priority ++ s ++ address)
of_publication name s memory number text owner beacon pixel run minutes priority address = simp append_assoc

pub of_entry : (name s number code outcome : List ℕ) → name ++ ((number ++ s) ++ ((code ++ s) ++ outcome)) ≡ name ++ number ++ s ++ code ++ s ++ outcome
of_entry name s number code outcome = simp append_assoc

pub of_failure : (name step s why : List ℕ) → name ++ (step ++ (s ++ why)) ≡ name ++ step ++ s ++ why
of_failure name step s why = simp append_assoc

pub of_state : (form next last phase ledger end rest : List ℕ)
    → (form ++ next ++ last ++ phase ++ ledger ++ end) ++ rest ≡ form ++ (next ++ (last ++ (phase ++ (ledger ++ (end ++ rest)))))
of_state form next last phase ledger end rest = simp append_assoc
