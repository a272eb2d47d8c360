-- What is read of a name is the content of its numbers.
use Rattle.std.proofs.Common.{◌≡◌, ℕ, zero, suc, ◌+◌, ◌*◌, ◌-◌, ◌^◌, ◌<◌, ◌≤◌, true, false, List, [], ◌∷◌, ◌++◌, length, Option, Some, None, refl, sym, ap, subst, ◌∙◌, arith, append_assoc, append-nil, flat_map}
use Rattle.std.specs.Int.Digits.{AllBelowBase}
use Rattle.std.proofs.lemmas.Option.{same_Some, none-some}
use Rattle.dms_wire_ber.specs.ObjectIdentifier.{IsName, sub_identifier_octets, name_octets}
use Rattle.dms_wire_ber.specs.NameReading.{numbers_of}
use Rattle.dms_wire_ber.proofs.CanonicalNames.{name_spelled}
use Rattle.dms_wire_ber.proofs.Names.{name_only}
use Rattle.dms_text.specs.Words.{parts_of}
use Rattle.dms_text.specs.Reading.{decimal_at, is_end, ◌>>=◌}
use Rattle.dms_text.proofs.WordLaws.{begun, goes_on, numeral_found}
use Rattle.dms_text_forms.proofs.FieldLaws.{same_rest}
use Rattle.dms_text_values.specs.NameReading.{numbers_at, most_second, name_of}
use Rattle.dms_text_values.specs.View.{with_numbers}

-- ---- the loop over the numbers after the first two

pub full : (content : List ℕ) (words : List (List ℕ)) → is_end words ≡ false → None ≡ with_numbers content (numbers_at 0 words)
full content [] more = absurd (let t : true ≡ false = more in cc)
full content (word ∷ words) more = refl

pub all_read : (content : List ℕ) (left : ℕ) (words : List (List ℕ)) → is_end words ≡ true
    → Some content ≡ with_numbers content (numbers_at left words)
all_read content left [] end = ap Some (sym (append-nil content))
all_read content left (word ∷ words) end = absurd (let f : false ≡ true = end in cc)

pub not_read : (content : List ℕ) (left : ℕ) (words : List (List ℕ)) → is_end words ≡ false → decimal_at 10 0 4294967295 words ≡ None
    → None ≡ with_numbers content (numbers_at left words)
not_read content left [] more none = absurd (let t : true ≡ false = more in cc)
not_read content zero (part ∷ parts) more none = refl
not_read content (suc left) (part ∷ parts) more none =
    ap (λ found. with_numbers content (found >>= (λ number. numbers_at left parts >>= (λ others. Some (number.0 ∷ others))))) (sym none)

with_first : (content : List ℕ) (number : ℕ) (others : Option (List ℕ))
    → with_numbers content (others >>= (λ others. Some (number ∷ others))) ≡ with_numbers (content ++ sub_identifier_octets number) others
with_first content number None = refl
with_first content number (Some others) = ap Some (sym (append_assoc content (sub_identifier_octets number) (flat_map sub_identifier_octets others)))

pub one_read : (content : List ℕ) (left number : ℕ) (words rest : List (List ℕ)) → is_end words ≡ false → 0 < left
    → decimal_at 10 0 4294967295 words ≡ Some (number, rest)
    → with_numbers content (numbers_at left words) ≡ with_numbers (content ++ sub_identifier_octets number) (numbers_at (left - 1) rest)
one_read content left number [] rest more some e = absurd (let t : true ≡ false = more in cc)
one_read content zero number (part ∷ parts) rest more some e = absurd (omega arith)
one_read content (suc left) number (part ∷ parts) rest more some e =
    let found = numeral_found 10 0 4294967295 (part ∷ parts) (number, rest) e in
    let same : parts ≡ rest = same_rest _ _ _ _ found.words_are in
    let less : left ≡ suc left - 1 = omega arith in
    ap (with_numbers content) (goes_on _ (λ number. numbers_at left parts >>= (λ others. Some (number.0 ∷ others))) (number, rest) e)
    ∙ with_first content number (numbers_at left parts)
    ∙ ap (λ parts. with_numbers (content ++ sub_identifier_octets number) (numbers_at left parts)) same
    ∙ ap (λ left. with_numbers (content ++ sub_identifier_octets number) (numbers_at left rest)) less

-- ---- the whole name

others_small : (most : ℕ) (parts : List (List ℕ)) (others : List ℕ) → numbers_at most parts ≡ Some others
    → AllBelowBase (2 ^ 32) others × (length others ≤ most)
others_small most [] others e =
    subst (λ others. AllBelowBase (2 ^ 32) others × (length others ≤ most)) (same_Some _ _ e) (tt, omega arith)
others_small zero (part ∷ parts) others e = absurd (none-some others e)
others_small (suc most) (part ∷ parts) others e =
    let read = begun _ _ _ e in
    let more = begun _ _ _ read.2 in
    let number = numeral_found 10 0 4294967295 (part ∷ parts) read.0 read.1 in
    let small = others_small most parts more.0 more.1 in
    subst (λ others. AllBelowBase (2 ^ 32) others × (length others ≤ suc most)) (same_Some _ _ more.2)
    ((omega (arith, number.greatest), small.0), omega (arith, small.1))

second_small : (first second : ℕ) → first ≤ 2 → second ≤ most_second first → (first < 2 → second < 40) × (40 * first + second < 2 ^ 32)
second_small zero second low within = (λ _. omega arith, omega arith)
second_small (suc zero) second low within = (λ _. omega arith, omega arith)
second_small (suc (suc zero)) second low within = (λ small. absurd (omega arith), omega arith)
second_small (suc (suc (suc n))) second low within = absurd (omega arith)

-- what is read is the content of a name, and its numbers are those that were read
pub record IsRead (first second : ℕ) (parts : List (List ℕ)) (content : List ℕ) : Type 0 where
  pub numbers : (numbers_at 126 parts >>= (λ others. Some (first ∷ second ∷ others))) ≡ Some (numbers_of content)
  pub named : IsName (numbers_of content) content

name_made : (first second : ℕ) (parts : List (List ℕ)) (others content : List ℕ) → first ≤ 2 → second ≤ most_second first
    → numbers_at 126 parts ≡ Some others → content ≡ sub_identifier_octets (40 * first + second) ++ flat_map sub_identifier_octets others
    → IsRead first second parts content
unfolding name_octets
name_made first second parts others content low within read is =
    let small = others_small 126 parts others read in
    let limits = second_small first second low within in
    let spelled : IsName (first ∷ second ∷ others) (name_octets (first ∷ second ∷ others)) =
    name_spelled (first ∷ second ∷ others) (low, limits.0, limits.1, small.0, small.1) in
    let named : IsName (first ∷ second ∷ others) content = subst (IsName (first ∷ second ∷ others)) (sym is) spelled in
    let same = (name_only _ content named).1 in
    record {
      numbers = goes_on _ (λ others. Some (first ∷ second ∷ others)) others read ∙ ap Some (sym same);
      named = subst (λ numbers. IsName numbers content) (sym same) named;
    }

from_option : (first second : ℕ) (parts : List (List ℕ)) (found : Option (List ℕ)) (content : List ℕ) → first ≤ 2 → second ≤ most_second first
    → numbers_at 126 parts ≡ found → Some content ≡ with_numbers (sub_identifier_octets (40 * first + second)) found
    → IsRead first second parts content
from_option first second parts None content low within read is = absurd (none-some content (sym is))
from_option first second parts (Some others) content low within read is = name_made first second parts others content low within read (same_Some _ _ is)

pub name_read : (first second : ℕ) (parts : List (List ℕ)) (content : List ℕ) → first ≤ 2 → second ≤ most_second first
    → Some content ≡ with_numbers (sub_identifier_octets (40 * first + second)) (numbers_at 126 parts) → IsRead first second parts content
name_read first second parts content low within is = from_option first second parts (numbers_at 126 parts) content low within refl is

-- the numbers of a word of which all are read
pub name_returned : (word : List ℕ) (first second most : ℕ) (all parts more : List (List ℕ)) (content : List ℕ)
    → all ≡ parts_of 46 word → decimal_at 10 0 2 all ≡ Some (first, parts) → most ≡ most_second first
    → decimal_at 10 0 most parts ≡ Some (second, more) → IsRead first second more content → Some (numbers_of content) ≡ name_of word
unfolding name_of
name_returned word first second most all parts more content whole one limit other read =
    sym (
    goes_on _ _ (first, parts) (ap (decimal_at 10 0 2) (sym whole) ∙ one)
    ∙ goes_on _ _ (second, more) (ap (λ most. decimal_at 10 0 most parts) (sym limit) ∙ other)
    ∙ read.numbers
    )

none_from : (first second : ℕ) (found : Option (List ℕ)) (content : List ℕ) → None ≡ with_numbers content found
    → (found >>= (λ others. Some (first ∷ second ∷ others))) ≡ None
none_from first second None content is = refl
none_from first second (Some others) content is = absurd (none-some _ is)

pub name_not_read : (first second : ℕ) (parts : List (List ℕ)) (content : List ℕ) → None ≡ with_numbers content (numbers_at 126 parts)
    → (numbers_at 126 parts >>= (λ others. Some (first ∷ second ∷ others))) ≡ None
name_not_read first second parts content is = none_from first second (numbers_at 126 parts) content is

pub ruleset steps = (full, all_read, not_read, one_read)

pub ruleset names = (name_not_read)
