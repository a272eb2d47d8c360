-- What reading a value finds is spelled so, and what is spelled so is found.
use Rattle.std.proofs.Common.{◌≡◌, ℕ, ◌<◌, ◌≤◌, Bool, true, false, cond, List, [], ◌∷◌, ◌++◌, length, Option, Some, None, option_map, refl, sym, ap, ◌∙◌, inl, inr, ◌⊎◌, arith, subst, append-nil, length-append}
use Rattle.std.specs.Prelude.{option_and_then}
use Rattle.std.specs.Char.{to_ascii_lowercase, digit_value}
use Rattle.std.specs.Str.Parse.{AllDigits}
use Rattle.std.proofs.lemmas.Bool.{le-leb, and_from, ne_eqb}
use Rattle.std.proofs.lemmas.Bool.Decides.{nat_tests}
use Rattle.dms_text.specs.Numbers.{SpellsNumber, SpellsDecimal}
use Rattle.dms_text.specs.Reading.{number_of, within}
use Rattle.dms_text.proofs.NumberLaws.{number_found, number_only, version_found, version_only}
use Rattle.dms_codes.proofs.Options.{mapped_some}
use Rattle.dms_multi.specs.Reading.{cut, decimal_of, value_of}
use Rattle.dms_multi.specs.TagReading.{time_pair, times_in, times_of, font_pair, font_in, font_of}
use Rattle.dms_multi.specs.Grammar.{Value, Times, FontValue, Word}
use Rattle.dms_multi.specs.declared.value.TwoTimes.{TwoTimes}
use Rattle.dms_multi.proofs.Cuts.{IsFree, IsCut, cut_again, cut_free, cut_found}

-- which way a choice went
pub chosen : {A : Type 0} {x y z : A} (b : Bool) → cond b x y ≡ z → ((b ≡ true) × (x ≡ z)) ⊎ ((b ≡ false) × (y ≡ z))
chosen b e = grind arith

-- ---- numbers

decimal_in : (low high n : ℕ) (text : List ℕ) (o : Option ℕ) → ((m : ℕ) → o ≡ Some m → SpellsNumber 10 5 m text) → option_and_then (within low high) o ≡ Some n → SpellsDecimal low high n text
decimal_in low high n text o digits e = grind arith

pub decimal_found : (low high n : ℕ) (text : List ℕ) → decimal_of low high text ≡ Some n → SpellsDecimal low high n text
unfolding decimal_of
decimal_found low high n text e = decimal_in low high n text (number_of 10 5 text) (λ m. number_found 10 5 m text) e

pub decimal_again : (low high n : ℕ) (text : List ℕ) → SpellsDecimal low high n text → decimal_of low high text ≡ Some n
unfolding decimal_of
decimal_again low high n text d = grind (arith, and_from, le-leb, number_only)

-- ---- values

value_some : (low high : ℕ) (v : Option ℕ) (n : ℕ) (text : List ℕ) → SpellsDecimal low high n text → Some n ≡ v → Value low high v text
value_some low high v n text number e = subst (λ (w : Option ℕ). Value low high w text) e number

pub value_found : (low high : ℕ) (v : Option ℕ) (text : List ℕ) → value_of low high text ≡ Some v → Value low high v text
unfolding value_of
value_found low high v text e = grind (arith, mapped_some, value_some, decimal_found)

pub value_again : (low high : ℕ) (v : Option ℕ) (text : List ℕ) → Value low high v text → value_of low high text ≡ Some v
unfolding value_of
value_again low high None text nothing = ap (value_of low high) nothing
value_again low high (Some n) [] number = absurd (omega (arith, number.spelled.numeral.0))
value_again low high (Some n) (c ∷ cs) number = ap (option_map Some) (decimal_again low high n (c ∷ cs) number)

-- ---- letters

pub digit_value_lower : (c : ℕ) → digit_value (to_ascii_lowercase c) ≡ digit_value c
digit_value_lower c = grind (arith, nat_tests)

-- a change of case makes letters alone
pub lower_other : (c k : ℕ) → to_ascii_lowercase c ≡ k → k < 97 → c ≡ k
lower_other c k e small = grind (arith, nat_tests)

-- digits do not hold a letter that is none
pub free_digits : (base letter : ℕ) (text : List ℕ) → base ≤ digit_value letter → AllDigits base text → IsFree letter text
free_digits base letter [] large all = tt
free_digits base letter (c ∷ cs) large all =
    let differs : to_ascii_lowercase c ≡ letter → ⊥ = λ e. absurd (let same : digit_value letter ≡ digit_value c = sym (ap digit_value e) ∙ digit_value_lower c in omega (arith, all.0, same)) in
    (ne_eqb _ _ differs, free_digits base letter cs large all.1)

pub free_value : (letter low high : ℕ) (v : Option ℕ) (text : List ℕ) → 10 ≤ digit_value letter → Value low high v text → IsFree letter text
free_value letter low high None text large nothing = subst (IsFree letter) (sym nothing) tt
free_value letter low high (Some n) text large number = free_digits 10 letter text large number.spelled.numeral.1

-- ---- two times

paired_some : (a b : Option (Option ℕ)) (t : TwoTimes) → time_pair a b ≡ Some t → (a ≡ Some t.first) × (b ≡ Some t.second)
paired_some a b t e = grind arith

times_found_in : (letter high : ℕ) (text : List ℕ) (o : Option (List ℕ × List ℕ)) (t : TwoTimes) → ((front back : List ℕ) → o ≡ Some (front, back) → IsCut letter text front back) → times_in high text o ≡ Some t → Times (letter ∷ []) high t.first t.second text
times_found_in letter high text None t pieces e =
    let both = paired_some _ _ t e in
    let none : t.second ≡ None = cc in
    record { front = text; back = []; first = value_found 0 high t.first text both.0; second = inr (none, refl); parts = sym (append-nil text) }
times_found_in letter high text (Some (front, back)) t pieces e =
    let both = paired_some _ _ t e in
    let there = pieces front back refl in
    record {
      front = front;
      back = there.octet ∷ back;
      first = value_found 0 high t.first front both.0;
      second = inl (record { front = there.octet ∷ []; back = back; first = ap (λ c. c ∷ []) there.is; second = value_found 0 high t.second back both.1; parts = refl });
      parts = there.parts;
    }

pub times_found : (letter high : ℕ) (text : List ℕ) (t : TwoTimes) → times_of letter high text ≡ Some t → Times (letter ∷ []) high t.first t.second text
unfolding times_of
times_found letter high text t e = times_found_in letter high text (cut letter text) t (λ front back. cut_found letter text front back) e

-- a word of one letter
pub one_letter : (letter : ℕ) (text : List ℕ) → Word (letter ∷ []) text → (c : ℕ) × (text ≡ c ∷ []) × (to_ascii_lowercase c ≡ letter)
one_letter letter [] word = absurd cc
one_letter letter (c ∷ []) word = let same : to_ascii_lowercase c ≡ letter = cc in (c, refl, same)
one_letter letter (c ∷ d ∷ cs) word = absurd cc

pub times_again : (letter high : ℕ) (first second : Option ℕ) (text : List ℕ) → 10 ≤ digit_value letter → Times (letter ∷ []) high first second text → times_of letter high text ≡ Some (record { first = first; second = second })
unfolding times_of
times_again letter high first second text large times = grind (arith, one_letter, cut_again, free_value, value_again, append-nil, cut_free)

-- ---- fonts

versioned_some : (a b : Option ℕ) (v : Option (ℕ × Option ℕ)) → font_pair a b ≡ Some v → (n version : ℕ) × (a ≡ Some n) × (b ≡ Some version) × (Some (n, Some version) ≡ v)
versioned_some a b v e = grind arith

font_found_in : (text : List ℕ) (o : Option (List ℕ × List ℕ)) (v : Option (ℕ × Option ℕ)) → ((front back : List ℕ) → o ≡ Some (front, back) → IsCut 44 text front back) → font_in text o ≡ Some v → FontValue v text
font_found_in text None v pieces e =
    let found = mapped_some _ _ v e in
    subst (λ (w : Option (ℕ × Option ℕ)). FontValue w text) found.2 (decimal_found 1 255 found.0 text found.1)
font_found_in text (Some (front, back)) v pieces e =
    let small : 44 < 97 = omega arith in
    let found = versioned_some _ _ v e in
    let there = pieces front back refl in
    let version = version_found found.1 back found.3 in
    let comma : there.octet ∷ [] ≡ 44 ∷ [] = ap (λ c. c ∷ []) (lower_other there.octet 44 there.is small) in
    let spelled : FontValue (Some (found.0, Some found.1)) text = record {
      front = front;
      back = there.octet ∷ back;
      first = decimal_found 1 255 found.0 front found.2;
      second = record { front = there.octet ∷ []; back = back; first = comma; second = version; parts = refl };
      parts = there.parts;
    } in
    subst (λ (w : Option (ℕ × Option ℕ)). FontValue w text) found.4 spelled

pub font_found : (v : Option (ℕ × Option ℕ)) (text : List ℕ) → font_of text ≡ Some v → FontValue v text
unfolding font_of
font_found v text e = grind (arith, font_found_in, cut_found)

font_some : (text : List ℕ) → 0 < length text → font_of text ≡ font_in text (cut 44 text)
unfolding font_of
font_some text some = grind arith

pub font_again : (v : Option (ℕ × Option ℕ)) (text : List ℕ) → FontValue v text → font_of text ≡ Some v
font_again None text nothing = ap font_of nothing ∙ (unfold font_of in refl)
font_again (Some (n, None)) text number =
    font_some text number.spelled.numeral.0 ∙ rw (cut_free 44 text (free_digits 10 44 text (omega arith) number.spelled.numeral.1), decimal_again 1 255 n text number) refl
font_again (Some (n, Some version)) text parts =
    let number = parts.first in
    let tail = parts.second in
    let whole : text ≡ parts.front ++ 44 ∷ tail.back = parts.parts ∙ ap (λ t. parts.front ++ t) (tail.parts ∙ ap (λ t. t ++ tail.back) tail.first) in
    let some : 0 < length text = rw whole (rw length-append (omega (arith, number.spelled.numeral.0))) in
    let there : cut 44 text ≡ Some (parts.front, tail.back) = ap (cut 44) whole ∙ cut_again 44 44 parts.front tail.back (free_digits 10 44 parts.front (omega arith) number.spelled.numeral.1) refl in
    font_some text some ∙ rw (there, decimal_again 1 255 n parts.front number, version_only version tail.back tail.second) refl
