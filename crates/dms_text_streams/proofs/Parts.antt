-- How much of a piece belongs to the first line.
use Rattle.std.proofs.Common.{◌≡◌, ◌≢◌, ℕ, ◌+◌, ◌<◌, ◌==◌, Bool, true, false, List, [], ◌∷◌, ◌++◌, All, length, take, drop, get_or-take, Some, None, refl, sym, ap, ◌∙◌, subst, arith, append_assoc, take_all, take-append-drop, eq-eqb, eqb-true, length-take}
use Rattle.std.specs.List.{position}
use Rattle.std.specs.Io.BufRead.{take_through, drop_through}
use Rattle.std.proofs.lemmas.Bool.{ltb-false}
use Rattle.std.proofs.lemmas.Bool.Decides.{nat_tests}
use Rattle.std.proofs.lemmas.List.{take_more, drop_more}
use Rattle.std.proofs.lemmas.List.Quantifiers.{position-Some}
use Rattle.std.proofs.lemmas.List.Sums.{fails_before_first}
use Rattle.std.proofs.BufReadLemmas.{take_through-append, drop_through-append}
use Rattle.dms_text.proofs.Splits.{none_test}
use Rattle.dms_text_streams.specs.Lines.{IsPart, IsLastPart}

abbrev pub is_newline : ℕ → Bool
is_newline octet = octet == 10

other : (octet : ℕ) → (octet == 10) ≡ false → octet ≢ 10
other octet tested e = cc (eq-eqb octet 10 e)

-- what stands before the first newline has none
pub before_newline : (piece : List ℕ) (n : ℕ) → position is_newline piece ≡ Some n → All (λ x. x ≢ 10) (take n piece)
before_newline piece n found =
    λ k d below.
    let within : k < n = omega (arith, length-take n piece) in
    subst (λ x. x ≢ 10) (sym (get_or-take n piece k d within)) (other _ ((position-Some is_newline piece n d found).2 k within))

-- the piece, cut at its first newline
pub cut_there : (piece : List ℕ) (n : ℕ) → position is_newline piece ≡ Some n → piece ≡ take n piece ++ 10 ∷ drop (n + 1) piece
cut_there piece n found =
    let at = position-Some is_newline piece n 0 found in
    sym (take-append-drop n piece) ∙ ap (λ l. take n piece ++ l) (drop_more piece n 0 at.0)
    ∙ ap (λ x. take n piece ++ x ∷ drop (n + 1) piece) (eqb-true _ _ at.1)

pub through_newline : (piece : List ℕ) (n : ℕ) → position is_newline piece ≡ Some n → take (n + 1) piece ≡ take n piece ++ 10 ∷ []
through_newline piece n found =
    let at = position-Some is_newline piece n 0 found in
    take_more piece n 0 at.0 ∙ ap (λ x. take n piece ++ x ∷ []) (eqb-true _ _ at.1)

pub part_ends : (piece : List ℕ) (n : ℕ) → position is_newline piece ≡ Some n → IsLastPart piece (n + 1)
part_ends piece n found rest end =
    let all = before_newline piece n found in
    let joined : piece ++ rest ≡ take n piece ++ 10 ∷ (drop (n + 1) piece ++ rest) =
    ap (λ l. l ++ rest) (cut_there piece n found) ∙ append_assoc (take n piece) (10 ∷ drop (n + 1) piece) rest in (
      ap (take_through 10) joined ∙ take_through-append 10 (take n piece) (10 ∷ (drop (n + 1) piece ++ rest)) all ∙ sym (through_newline piece n found),
      ap (drop_through 10) joined ∙ drop_through-append 10 (take n piece) (10 ∷ (drop (n + 1) piece ++ rest)) all,
    )

-- a piece without a newline
pub no_newline : (piece : List ℕ) → position is_newline piece ≡ None → All (λ x. x ≢ 10) piece
no_newline piece p = grind (arith, ltb-false, none_test, other, fails_before_first)

pub part_goes_on : (piece : List ℕ) → position is_newline piece ≡ None → 0 < length piece → IsPart piece (length piece)
part_goes_on piece p some = grind (arith, take_all, no_newline)

pub some_there : (piece : List ℕ) → (length piece == 0) ≡ false → 0 < length piece
some_there piece tested = grind (arith, nat_tests)

pub nothing_read : (piece : List ℕ) → length piece ≡ 0 → IsLastPart piece (length piece)
nothing_read [] none rest end = (ap (take_through 10) (end refl), ap (drop_through 10) (end refl) ∙ sym (end refl))
nothing_read (x ∷ piece) none rest end = absurd (omega arith)

pub ruleset parts = (part_ends, part_goes_on, nothing_read)

pub none_there : (piece : List ℕ) → (length piece == 0) ≡ true → length piece ≡ 0
none_there piece tested = grind (arith, nat_tests)
