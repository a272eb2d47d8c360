use Rattle.std.proofs.Common.{◌≡◌, ℕ, List, [], ◌∷◌, ◌++◌, get_or, sym, ap, codes, arith, rules}
use Rattle.std.proofs.lemmas.Slice.Eq.{text_from_reads}
use Rattle.dms_centre_text.proofs.ledger_text.accepted.Goals as goal

pub returns : goal.returns
returns c =
    let at = λ (n : ℕ). get_or c.args.digits n 0 in
    let digits : List ℕ =
    at 0 ∷ at 1 ∷ at 2 ∷ at 3 ∷ at 4 ∷ at 5 ∷ at 6 ∷ at 7 ∷ at 8 ∷ at 9 ∷ at 10 ∷ at 11 ∷ at 12 ∷ at 13 ∷ at 14 ∷ at 15 ∷ at 16 ∷ at 17 ∷ at 18 ∷ at 19 ∷ at 20 ∷ at 21 ∷ at 22 ∷ at 23 ∷ [] in
    let is : c.args.digits ≡ digits = text_from_reads c.args.digits digits (omega arith) (search rules) in
    ap (λ (digits : List ℕ). codes " " ++ digits ++ codes " accepted\n") (sym is)
