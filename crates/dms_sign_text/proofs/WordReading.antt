-- What single words and whole lines of words spell is what is read of them.
use Rattle.std.proofs.Common.{◌≡◌, ℕ, ◌<◌, ◌==◌, Bool, true, false, List, [], ◌∷◌, length, Option, Some, ap, subst, ◌∙◌, arith}
use Rattle.std.specs.Prelude.{codes}
use Rattle.std.proofs.lemmas.Option.{same_Some, none-some}
use Rattle.dms_text.specs.Numbers.{SpellsDecimal}
use Rattle.dms_text.specs.Reading.{keyword_at, decimal_at, ◌>>=◌}
use Rattle.dms_text.proofs.WordLaws.{begun, goes_on, keyword_found, keyword_only, decimal_found, decimal_only, numeral_found, numeral_only}
use Rattle.dms_codes.specs.declared.codes.Order.{Order}
use Rattle.dms_codes.specs.declared.codes.Order.TheVariants.{High, Swapped}
use Rattle.dms_text_forms.specs.Fields.{SpellsFourOctets}
use Rattle.dms_text_forms.specs.FieldsReading.{if_last}
use Rattle.dms_text_forms.proofs.WordReading.{last_found, by_keyword}
use Rattle.dms_sign_text.specs.Fields.{SpellsFlag, SpellsOrder}
use Rattle.dms_sign_text.specs.DescriptionReading.{order_named}

-- ---- two numbers after a keyword

pub record FoundTwo {A : Type 0} (keyword : List ℕ) (high : ℕ) (make : ℕ → ℕ → A) (words : List (List ℕ)) (found : A) : Type 0 where
  pub one : ℕ
  pub other : ℕ
  pub one_word : List ℕ
  pub other_word : List ℕ
  pub words_are : words ≡ keyword ∷ one_word ∷ other_word ∷ []
  pub one_spelled : SpellsDecimal 0 high one one_word
  pub other_spelled : SpellsDecimal 0 high other other_word
  pub is : make one other ≡ found

abbrev pub two_at : {A : Type 0} → List ℕ → ℕ → (ℕ → ℕ → A) → List (List ℕ) → Option A
two_at keyword high make words = do
  after ← keyword_at keyword words
  one ← decimal_at 5 0 high after
  other ← decimal_at 5 0 high one.1
  if_last (make one.0 other.0) other.1

pub two_found : {A : Type 0} (keyword : List ℕ) (high : ℕ) (make : ℕ → ℕ → A) (words : List (List ℕ)) (found : A) → two_at keyword high make words ≡ Some found → FoundTwo keyword high make words found
two_found keyword high make words found e =
    let read = begun _ _ _ e in
    let one = begun _ _ _ read.2 in
    let other = begun _ _ _ one.2 in
    let end = last_found _ _ found other.2 in
    let at_one = decimal_found 0 high read.0 one.0 one.1 in
    let at_other = decimal_found 0 high one.0.1 other.0 other.1 in
    record {
      one = one.0.0;
      other = other.0.0;
      one_word = at_one.word;
      other_word = at_other.word;
      words_are = keyword_found keyword words read.0 read.1
          ∙ ap (λ rest. keyword ∷ rest) (at_one.words_are
          ∙ ap (λ rest. at_one.word ∷ rest) (at_other.words_are ∙ ap (λ rest. at_other.word ∷ rest) end.0));
      one_spelled = at_one.spelled;
      other_spelled = at_other.spelled;
      is = end.1;
    }

pub two_only : {A : Type 0} (keyword : List ℕ) (high : ℕ) (make : ℕ → ℕ → A) (one other : ℕ) (one_word other_word : List ℕ) → 0 < length keyword
    → SpellsDecimal 0 high one one_word → SpellsDecimal 0 high other other_word → two_at keyword high make (keyword ∷ one_word ∷ other_word ∷ []) ≡ Some (make one other)
two_only keyword high make one other one_word other_word some at_one at_other = grind (arith, goes_on, keyword_only, decimal_only)

-- ---- flags

pub flag_found : (flag : Bool) (number : ℕ) (word : List ℕ) → SpellsDecimal 0 1 number word → (number == 1) ≡ flag → SpellsFlag flag word
flag_found flag number word spelled is = grind arith

abbrev pub flag_number : Bool → ℕ
flag_number true = 1
flag_number false = 0

pub flag_only : (flag : Bool) (word : List ℕ) → SpellsFlag flag word → SpellsDecimal 0 1 (flag_number flag) word
flag_only flag word spelled = grind arith

pub flag_is : (flag : Bool) → (flag_number flag == 1) ≡ flag
flag_is flag = grind arith

-- ---- orders

pub order_found : (order : Order) (word : List ℕ) → order_named word ≡ Some order → SpellsOrder order word
order_found order word e =
    by_keyword word (codes "high") _ _ order e (λ is same. subst (λ o. SpellsOrder o word) (same_Some High order same) is) λ e.
    by_keyword word (codes "swapped") _ _ order e (λ is same. subst (λ o. SpellsOrder o word) (same_Some Swapped order same) is) λ e.
    absurd (none-some order e)

pub order_only : (order : Order) (word : List ℕ) → SpellsOrder order word → order_named word ≡ Some order
order_only order word spelled = grind arith

-- ---- a number of four octets

pub record FoundFour (words : List (List ℕ)) (found : ℕ × List (List ℕ)) : Type 0 where
  pub word : List ℕ
  pub words_are : words ≡ word ∷ found.1
  pub spelled : SpellsFourOctets found.0 word

pub four_found : (words : List (List ℕ)) (found : ℕ × List (List ℕ)) → decimal_at 10 0 4294967295 words ≡ Some found → FoundFour words found
four_found words found e =
    let numeral = numeral_found 10 0 4294967295 words found e in
    record {
      word = numeral.word;
      words_are = numeral.words_are;
      spelled = record { spelled = numeral.spelled; small = omega (arith, numeral.greatest) };
    }

pub four_only : (number : ℕ) (word : List ℕ) (rest : List (List ℕ)) → SpellsFourOctets number word → decimal_at 10 0 4294967295 (word ∷ rest) ≡ Some (number, rest)
four_only number word rest spelled = numeral_only 10 0 4294967295 number word rest spelled.spelled (omega arith) (let small = spelled.small in omega (arith, small))
