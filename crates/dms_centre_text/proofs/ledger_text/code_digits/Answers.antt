use Rattle.std.proofs.Common.{◌≡◌, ◌∙◌, ap, sym, ℕ, List, [], ◌∷◌, get_or, arith, rules}
use Rattle.std.proofs.lemmas.Slice.Eq.{text_from_reads}
use Rattle.hex.specs.Hex.{encode_lower}
use Rattle.dms_text_filling.proofs.Pairs.{digits_of_one_more, no_digits_of_none}
use Rattle.dms_centre_text.proofs.ledger_text.code_digits.Goals as goal

pub returns : goal.returns
returns c =
    let at = λ (n : ℕ). get_or c.to_bytes.result n 0 in
    let octets : List ℕ = at 0 ∷ at 1 ∷ at 2 ∷ at 3 ∷ at 4 ∷ at 5 ∷ at 6 ∷ at 7 ∷ at 8 ∷ at 9 ∷ at 10 ∷ at 11 ∷ [] in
    let is : c.to_bytes.result ≡ octets = text_from_reads c.to_bytes.result octets (omega arith) (search rules) in
    digits_of_one_more (at 0) _ _ _ _ c.two_digits-a1.ensures.first c.two_digits-a1.ensures.second
    (digits_of_one_more (at 1) _ _ _ _ c.two_digits-b1.ensures.first c.two_digits-b1.ensures.second
    (digits_of_one_more (at 2) _ _ _ _ c.two_digits-c1.ensures.first c.two_digits-c1.ensures.second
    (digits_of_one_more (at 3) _ _ _ _ c.two_digits-d1.ensures.first c.two_digits-d1.ensures.second
    (digits_of_one_more (at 4) _ _ _ _ c.two_digits-e1.ensures.first c.two_digits-e1.ensures.second
    (digits_of_one_more (at 5) _ _ _ _ c.two_digits-f1.ensures.first c.two_digits-f1.ensures.second
    (digits_of_one_more (at 6) _ _ _ _ c.two_digits-g1.ensures.first c.two_digits-g1.ensures.second
    (digits_of_one_more (at 7) _ _ _ _ c.two_digits-h1.ensures.first c.two_digits-h1.ensures.second
    (digits_of_one_more (at 8) _ _ _ _ c.two_digits-i1.ensures.first c.two_digits-i1.ensures.second
    (digits_of_one_more (at 9) _ _ _ _ c.two_digits-j1.ensures.first c.two_digits-j1.ensures.second
    (digits_of_one_more (at 10) _ _ _ _ c.two_digits-k1.ensures.first c.two_digits-k1.ensures.second
    (digits_of_one_more (at 11) _ _ _ _ c.two_digits-l1.ensures.first c.two_digits-l1.ensures.second no_digits_of_none)))))))))))
    ∙ ap encode_lower (sym is ∙ c.to_bytes.ensures)
