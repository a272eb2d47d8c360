-- The same text, its parts in other brackets.
use Rattle.std.proofs.Common.{◌≡◌, ℕ, List, ◌++◌, append_assoc}

pub of_number : (name space digits end : List ℕ) → name ++ (space ++ (digits ++ end)) ≡ name ++ space ++ digits ++ end
of_number name space digits end = simp append_assoc

pub of_part : (name part space digits end : List ℕ) → name ++ ((part ++ space) ++ (digits ++ end)) ≡ name ++ part ++ space ++ digits ++ end
of_part name part space digits end = simp append_assoc

pub of_part_begun : (name part space digits end rest : List ℕ) → (name ++ part ++ space ++ digits ++ end) ++ rest ≡ (name ++ (part ++ space)) ++ ((digits ++ end) ++ rest)
of_part_begun name part space digits end rest = simp append_assoc

pub of_defaults : (s n a b c d e f g h i : List ℕ)
    → s ++ (((a ++ s) ++ ((b ++ s) ++ ((c ++ s) ++ (d ++ s)))) ++ (((e ++ s) ++ ((f ++ s) ++ (g ++ s))) ++ ((h ++ s) ++ (i ++ n))))
    ≡ (s ++ a ++ s ++ b ++ s ++ c ++ s ++ d) ++ (s ++ e ++ s ++ f ++ s ++ g) ++ (s ++ h ++ s ++ i ++ n)
of_defaults s n a b c d e f g h i = simp append_assoc

pub of_message : (s n t o b p r : List ℕ)
    → s ++ ((t ++ s) ++ ((o ++ s) ++ ((b ++ s) ++ ((p ++ s) ++ (r ++ n))))) ≡ (s ++ t) ++ (s ++ o) ++ (s ++ b ++ s ++ p ++ s ++ r ++ n)
of_message s n t o b p r = simp append_assoc

pub of_row : (name s number status rest : List ℕ) → name ++ (s ++ ((number ++ s) ++ ((status ++ s) ++ rest))) ≡ (name ++ s ++ number ++ s ++ status) ++ (s ++ rest)
of_row name s number status rest = simp append_assoc

pub of_five : (a b c d e : List ℕ) → a ++ (b ++ (c ++ (d ++ e))) ≡ a ++ b ++ c ++ d ++ e
of_five a b c d e = simp append_assoc

pub of_six : (a b c d e f : List ℕ) → a ++ (b ++ (c ++ (d ++ (e ++ f)))) ≡ a ++ b ++ c ++ d ++ e ++ f
of_six a b c d e f = simp append_assoc

pub of_reports : (a b c d e f : List ℕ) → (a ++ (b ++ (c ++ d))) ++ (e ++ f) ≡ a ++ b ++ c ++ d ++ e ++ f
of_reports a b c d e f = simp append_assoc

pub of_state : (form changeable volatile set silent shown kept reports powered end : List ℕ)
    → form ++ (((changeable ++ (volatile ++ (set ++ silent))) ++ (shown ++ (kept ++ (reports ++ powered)))) ++ end)
    ≡ form ++ (changeable ++ volatile) ++ set ++ silent ++ shown ++ kept ++ reports ++ (powered ++ end)
of_state form changeable volatile set silent shown kept reports powered end = simp append_assoc
