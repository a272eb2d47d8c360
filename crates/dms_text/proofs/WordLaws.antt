-- What a word spells is what is read of it.
use Rattle.std.proofs.Common.{◌≡◌, ℕ, ◌<◌, ◌≤◌, true, false, cond, List, [], ◌∷◌, length, Option, Some, None, Result, Ok, Err, refl, sym, ap, subst, ◌∙◌, arith, inl, inr}
use Rattle.std.specs.Prelude.{codes}
use Rattle.std.proofs.lemmas.Bool.{and_parts, and_from, eqb-true, eq-eqb, cases_Bool}
use Rattle.std.proofs.lemmas.Option.{cond_some, same_Some}
use Rattle.hex.specs.Hex.{decode_of, decode_pairs}
use Rattle.hex.specs.declared.error.FromHexError.{FromHexError}
use Rattle.hex.specs.declared.error.FromHexError.TheVariants.{OddLength}
use Rattle.dms_text.specs.Numbers.{SpellsNumber, SpellsDecimal}
use Rattle.dms_text.specs.Octets.{SpellsOctets}
use Rattle.dms_text.specs.Reading.{octets_decoded, is_dash, octets_of, word_at, same_octets, keyword_at, decimal_at, ◌>>=◌}
use Rattle.dms_text.proofs.NumberLaws.{number_found, number_only, within_found, within_only}

-- what a chain of readings began with
pub begun : {A B : Type 0} (first : Option A) (next : A → Option B) (y : B) → (first >>= next) ≡ Some y → (x : A) × (first ≡ Some x) × (next x ≡ Some y)
begun None next y e = absurd (let none : None ≡ Some y = e in cc)
begun (Some x) next y e = (x, refl, e)

-- the same, with what holds of all that the first one reads
pub begun_as : {A B : Type 0} {P : A → Type 0} (first : Option A) (next : A → Option B) (y : B) → ((x : A) → first ≡ Some x → P x) → (first >>= next) ≡ Some y
    → (x : A) × P x × (next x ≡ Some y)
begun_as first next y found e = let start = begun first next y e in (start.0, found start.0 start.1, start.2)

pub goes_on : {A B : Type 0} (first : Option A) (next : A → Option B) (x : A) → first ≡ Some x → (first >>= next) ≡ next x
goes_on first next x e = ap (λ o. o >>= next) e

-- ---- octets

dash_found : (word : List ℕ) → is_dash word ≡ true → word ≡ codes "-"
dash_found [] e = absurd (let never : false ≡ true = e in cc)
dash_found (octet ∷ []) e = ap (λ o. o ∷ []) (eqb-true octet 45 e)
dash_found (octet ∷ other ∷ octets) e = absurd (let never : false ≡ true = e in cc)

decoded_found : (result : Result (List ℕ) FromHexError) (octets word : List ℕ) → decode_of word ≡ result → octets_decoded result ≡ Some octets → SpellsOctets octets word
decoded_found (Ok []) octets word is e = absurd (let none : None ≡ Some octets = e in cc)
decoded_found (Ok (first ∷ rest)) [] word is e = absurd (let same : first ∷ rest ≡ [] = same_Some _ _ e in cc)
decoded_found (Ok (first ∷ rest)) (octet ∷ octets) word is e = is ∙ ap Ok (same_Some _ _ e)
decoded_found (Err fault) octets word is e = absurd (let none : None ≡ Some octets = e in cc)

pub octets_found : (octets word : List ℕ) → octets_of word ≡ Some octets → SpellsOctets octets word
unfolding octets_of
octets_found octets word e =
    elim (cases_Bool (is_dash word)) [
      | inl dash ↦ dashed octets word dash (ap (λ b. cond b (Some []) (octets_decoded (decode_of word))) (sym dash) ∙ e)
      | inr other ↦ decoded_found (decode_of word) octets word refl (ap (λ b. cond b (Some []) (octets_decoded (decode_of word))) (sym other) ∙ e)
    ]
  where
    dashed : (octets word : List ℕ) → is_dash word ≡ true → Some [] ≡ Some octets → SpellsOctets octets word
    dashed [] word dash e = dash_found word dash
    dashed (octet ∷ octets) word dash e = absurd (let same : [] ≡ octet ∷ octets = same_Some _ _ e in cc)

-- a dash is no pair of digits
not_dash : (octet : ℕ) (octets word : List ℕ) → decode_of word ≡ Ok (octet ∷ octets) → is_dash word ≡ false
not_dash octet octets [] e = refl
not_dash octet octets (first ∷ []) e = absurd (let odd : Err OddLength ≡ Ok (octet ∷ octets) = e in cc)
not_dash octet octets (first ∷ second ∷ more) e = refl

pub octets_only : (octets word : List ℕ) → SpellsOctets octets word → octets_of word ≡ Some octets
unfolding octets_of
octets_only [] word spelled = ap octets_of spelled
octets_only (octet ∷ octets) word spelled =
    ap (λ b. cond b (Some []) (octets_decoded (decode_of word))) (not_dash octet octets word spelled) ∙ ap octets_decoded spelled

-- a word that spells octets is not empty
pub octets_some : (octets word : List ℕ) → SpellsOctets octets word → 0 < length word
unfolding decode_pairs
octets_some [] word spelled = omega (arith, ap length spelled)
octets_some (octet ∷ octets) [] spelled = absurd (let nothing : ◌≡◌ {A = Result (List ℕ) FromHexError} (Ok []) (Ok (octet ∷ octets)) = spelled in cc)
octets_some (octet ∷ octets) (first ∷ more) spelled = omega arith

-- ---- the words of a line

pub word_found : (words : List (List ℕ)) (found : List ℕ × List (List ℕ)) → word_at words ≡ Some found → (words ≡ found.0 ∷ found.1) × (0 < length found.0)
unfolding word_at
word_found [] found e = absurd (let none : None ≡ Some found = e in cc)
word_found ([] ∷ words) found e = absurd (let none : None ≡ Some found = e in cc)
word_found ((octet ∷ octets) ∷ words) found e =
    let same : (octet ∷ octets, words) ≡ found = same_Some _ _ e in
    (ap (λ (pair : List ℕ × List (List ℕ)). pair.0 ∷ pair.1) same, let some : length (octet ∷ octets) ≡ length found.0 = ap (λ (pair : List ℕ × List (List ℕ)). length pair.0) same in omega arith)

pub word_only : (word : List ℕ) (words : List (List ℕ)) → 0 < length word → word_at (word ∷ words) ≡ Some (word, words)
unfolding word_at
word_only [] words some = absurd (omega arith)
word_only (octet ∷ octets) words some = refl

-- octets that are found the same are the same
pub same_found : (xs ys : List ℕ) → same_octets xs ys ≡ true → xs ≡ ys
same_found [] [] e = refl
same_found [] (y ∷ ys) e = absurd (let never : false ≡ true = e in cc)
same_found (x ∷ xs) [] e = absurd (let never : false ≡ true = e in cc)
same_found (x ∷ xs) (y ∷ ys) e =
    let parts = and_parts _ _ e in
    let head : x ≡ y = eqb-true x y parts.0 in
    let tail : xs ≡ ys = same_found xs ys parts.1 in
    cc

same_only : (xs : List ℕ) → same_octets xs xs ≡ true
same_only [] = refl
same_only (x ∷ xs) = and_from _ _ (eq-eqb x x refl) (same_only xs)

pub keyword_found : (keyword : List ℕ) (words rest : List (List ℕ)) → keyword_at keyword words ≡ Some rest → words ≡ keyword ∷ rest
unfolding keyword_at
keyword_found keyword words rest e =
    let read = begun _ _ _ e in
    let found = word_found words read.0 read.1 in
    let tests = cond_some _ _ _ read.2 in
    let same : read.0.0 ≡ keyword = same_found _ _ tests.0 in
    found.0 ∙ ap (λ word. word ∷ read.0.1) same ∙ ap (λ words. keyword ∷ words) tests.1

pub keyword_only : (keyword : List ℕ) (rest : List (List ℕ)) → 0 < length keyword → keyword_at keyword (keyword ∷ rest) ≡ Some rest
unfolding keyword_at
keyword_only keyword rest some =
    goes_on _ _ _ (word_only keyword rest some) ∙ ap (λ b. cond b (Some rest) None) (same_only keyword)

-- a number of one to `most` digits, from low to high
pub record FoundNumeral (most low high : ℕ) (words : List (List ℕ)) (found : ℕ × List (List ℕ)) : Type 0 where
  pub word : List ℕ
  pub words_are : words ≡ word ∷ found.1
  pub spelled : SpellsNumber 10 most found.0 word
  pub least : low ≤ found.0
  pub greatest : found.0 ≤ high

pub numeral_found : (most low high : ℕ) (words : List (List ℕ)) (found : ℕ × List (List ℕ)) → decimal_at most low high words ≡ Some found → FoundNumeral most low high words found
unfolding decimal_at
numeral_found most low high words found e =
    let read = begun _ _ _ e in
    let number = begun _ _ _ read.2 in
    let inside = begun _ _ _ number.2 in
    let after = word_found words read.0 read.1 in
    let bounds = within_found low high number.0 inside.0 inside.1 in
    let same : (inside.0, read.0.1) ≡ found = same_Some _ _ inside.2 in
    let value : inside.0 ≡ found.0 = ap (λ (pair : ℕ × List (List ℕ)). pair.0) same in
    let rest : read.0.1 ≡ found.1 = ap (λ (pair : ℕ × List (List ℕ)). pair.1) same in
    record {
      word = read.0.0;
      words_are = after.0 ∙ ap (λ words. read.0.0 ∷ words) rest;
      spelled = subst (λ n. SpellsNumber 10 most n read.0.0) (bounds.0 ∙ value) (number_found 10 most number.0 read.0.0 number.1);
      least = omega (arith, bounds.0, bounds.1, value);
      greatest = omega (arith, bounds.0, bounds.2, value);
    }

pub numeral_only : (most low high number : ℕ) (word : List ℕ) (rest : List (List ℕ)) → SpellsNumber 10 most number word → low ≤ number → number ≤ high
    → decimal_at most low high (word ∷ rest) ≡ Some (number, rest)
unfolding decimal_at
numeral_only most low high number word rest spelled least greatest =
    goes_on _ _ _ (word_only word rest spelled.numeral.0)
    ∙ goes_on _ _ _ (number_only 10 most number word spelled)
    ∙ goes_on _ _ _ (within_only low high number least greatest)

-- a number of one to five digits
pub record FoundDecimal (low high : ℕ) (words : List (List ℕ)) (found : ℕ × List (List ℕ)) : Type 0 where
  pub word : List ℕ
  pub words_are : words ≡ word ∷ found.1
  pub spelled : SpellsDecimal low high found.0 word

pub decimal_found : (low high : ℕ) (words : List (List ℕ)) (found : ℕ × List (List ℕ)) → decimal_at 5 low high words ≡ Some found → FoundDecimal low high words found
decimal_found low high words found e =
    let number = numeral_found 5 low high words found e in
    record {
      word = number.word;
      words_are = number.words_are;
      spelled = record { spelled = number.spelled; least = number.least; greatest = number.greatest };
    }

pub decimal_only : (low high number : ℕ) (word : List ℕ) (rest : List (List ℕ)) → SpellsDecimal low high number word → decimal_at 5 low high (word ∷ rest) ≡ Some (number, rest)
decimal_only low high number word rest spelled = numeral_only 5 low high number word rest spelled.spelled spelled.least spelled.greatest
