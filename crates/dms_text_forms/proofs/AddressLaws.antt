-- What is read of an address is what its word spells.
use Rattle.std.proofs.Common.{◌≡◌, ℕ, ◌<◌, List, [], ◌∷◌, length, Some, refl, sym, ap, subst, ◌∙◌, arith}
use Rattle.dms_text.specs.Words.{parts_of}
use Rattle.dms_text.specs.Reading.{decimal_at}
use Rattle.dms_text.proofs.WordLaws.{begun, goes_on, numeral_found, numeral_only}
use Rattle.dms_text_forms.specs.Fields.{SpellsEach, SpellsAddressPart, SpellsAddress}
use Rattle.dms_text_forms.specs.FieldsReading.{if_last, address_at, address_of}
use Rattle.dms_text_forms.proofs.WordReading.{last_found}

pub address_found : (word address : List ℕ) → address_of word ≡ Some address → SpellsAddress address word
unfolding address_at
address_found word address e =
    let one = begun _ _ _ e in
    let two = begun _ _ _ one.2 in
    let three = begun _ _ _ two.2 in
    let four = begun _ _ _ three.2 in
    let first = numeral_found 3 0 255 (parts_of 46 word) one.0 one.1 in
    let second = numeral_found 3 0 255 one.0.1 two.0 two.1 in
    let third = numeral_found 3 0 255 two.0.1 three.0 three.1 in
    let fourth = numeral_found 3 0 255 three.0.1 four.0 four.1 in
    let end = last_found (one.0.0 ∷ two.0.0 ∷ three.0.0 ∷ four.0.0 ∷ []) four.0.1 address four.2 in
    let parts : parts_of 46 word ≡ first.word ∷ second.word ∷ third.word ∷ fourth.word ∷ [] =
    first.words_are ∙ ap (λ rest. first.word ∷ rest) (second.words_are ∙ ap (λ rest. second.word ∷ rest) (third.words_are ∙ ap (λ rest. third.word ∷ rest)
    (fourth.words_are ∙ ap (λ rest. fourth.word ∷ rest) end.0))) in
    subst (λ numbers. SpellsAddress numbers word) end.1 (record {
      four = refl;
      parts = subst (SpellsEach SpellsAddressPart (one.0.0 ∷ two.0.0 ∷ three.0.0 ∷ four.0.0 ∷ [])) (sym parts) (
        record { spelled = first.spelled; small = first.greatest },
        (
          record { spelled = second.spelled; small = second.greatest },
          (record { spelled = third.spelled; small = third.greatest }, (record { spelled = fourth.spelled; small = fourth.greatest }, refl)),
        ),
      );
    })

part_only : (number : ℕ) (word : List ℕ) (rest : List (List ℕ)) → SpellsAddressPart number word → decimal_at 3 0 255 (word ∷ rest) ≡ Some (number, rest)
part_only number word rest spelled = numeral_only 3 0 255 number word rest spelled.spelled (omega arith) spelled.small

parts_only : (address : List ℕ) (parts : List (List ℕ)) → length address ≡ 4 → SpellsEach SpellsAddressPart address parts → address_at parts ≡ Some address
unfolding address_at
parts_only [] parts four each = absurd (omega (arith, four))
parts_only (a ∷ []) parts four each = absurd (omega (arith, four))
parts_only (a ∷ b ∷ []) parts four each = absurd (omega (arith, four))
parts_only (a ∷ b ∷ c ∷ []) parts four each = absurd (omega (arith, four))
parts_only (a ∷ b ∷ c ∷ d ∷ []) [] four each = absurd each
parts_only (a ∷ b ∷ c ∷ d ∷ []) (w ∷ []) four each = absurd each.1
parts_only (a ∷ b ∷ c ∷ d ∷ []) (w ∷ x ∷ []) four each = absurd each.1.1
parts_only (a ∷ b ∷ c ∷ d ∷ []) (w ∷ x ∷ y ∷ []) four each = absurd each.1.1.1
parts_only (a ∷ b ∷ c ∷ d ∷ []) (w ∷ x ∷ y ∷ z ∷ rest) four each =
    goes_on _ _ _ (part_only a w _ each.0)
    ∙ goes_on _ _ _ (part_only b x _ each.1.0)
    ∙ goes_on _ _ _ (part_only c y _ each.1.1.0)
    ∙ goes_on _ _ _ (part_only d z rest each.1.1.1.0)
    ∙ ap (if_last (a ∷ b ∷ c ∷ d ∷ [])) each.1.1.1.1
parts_only (a ∷ b ∷ c ∷ d ∷ e ∷ more) parts four each = absurd (omega (arith, four))

pub address_only : (word address : List ℕ) → SpellsAddress address word → address_of word ≡ Some address
address_only word address spelled = parts_only address (parts_of 46 word) spelled.four spelled.parts

-- a word that spells an address is not empty
pub address_some : (word address : List ℕ) → SpellsAddress address word → 0 < length word
address_some [] [] spelled = absurd (omega (arith, spelled.four))
address_some [] (a ∷ address) spelled = absurd (omega (arith, spelled.parts.0.spelled.numeral.0))
address_some (octet ∷ word) address spelled = omega arith
