-- The fields that are read of a line are those that its words spell.
use Rattle.std.proofs.Common.{◌≡◌, ℕ, List, [], ◌∷◌, Some, ap, subst, ◌∙◌, arith}
use Rattle.std.proofs.lemmas.Option.{same_Some}
use Rattle.dms_text.specs.Numbers.{SpellsNumber}
use Rattle.dms_text.specs.Octets.{SpellsOctets}
use Rattle.dms_text.proofs.WordLaws.{begun, goes_on, word_found, word_only, octets_found, octets_only, octets_some, numeral_found, numeral_only}
use Rattle.dms_text_forms.specs.Fields.{SpellsFourOctets, SpellsOne}
use Rattle.dms_text_forms.specs.FieldsReading.{last_number_at, octets_at, last_octets_at}
use Rattle.dms_text_forms.proofs.WordReading.{last_found}

-- ---- words

pub same_rest : (word other : List ℕ) (words others : List (List ℕ)) → word ∷ words ≡ other ∷ others → words ≡ others
same_rest word other words others e = grind arith

pub record FoundOctets (words : List (List ℕ)) (found : List ℕ × List (List ℕ)) : Type 0 where
  pub word : List ℕ
  pub words_are : words ≡ word ∷ found.1
  pub spelled : SpellsOctets found.0 word

pub next_octets_found : (words : List (List ℕ)) (found : List ℕ × List (List ℕ)) → octets_at words ≡ Some found → FoundOctets words found
unfolding octets_at
next_octets_found words found e =
    let read = begun _ _ _ e in
    let octets = begun _ _ _ read.2 in
    let same : (octets.0, read.0.1) ≡ found = same_Some _ _ octets.2 in
    let value : octets.0 ≡ found.0 = ap (λ (pair : List ℕ × List (List ℕ)). pair.0) same in
    let rest : read.0.1 ≡ found.1 = ap (λ (pair : List ℕ × List (List ℕ)). pair.1) same in
    record {
      word = read.0.0;
      words_are = (word_found words read.0 read.1).0 ∙ ap (λ words. read.0.0 ∷ words) rest;
      spelled = subst (λ xs. SpellsOctets xs read.0.0) value (octets_found octets.0 read.0.0 octets.1);
    }

pub next_octets_only : (octets word : List ℕ) (rest : List (List ℕ)) → SpellsOctets octets word → octets_at (word ∷ rest) ≡ Some (octets, rest)
unfolding octets_at
next_octets_only octets word rest spelled = grind (arith, goes_on, word_only, octets_some, octets_only)

-- ---- the last word of a line

pub last_number_found : (keyword : List ℕ) (words : List (List ℕ)) (number : ℕ) → last_number_at words ≡ Some number → SpellsOne keyword (SpellsFourOctets number) (keyword ∷ words)
unfolding last_number_at
last_number_found keyword words number e =
    let read = begun _ _ _ e in
    let found = numeral_found 10 0 4294967295 words read.0 read.1 in
    let end = last_found read.0.0 read.0.1 number read.2 in
    record {
      word = found.word;
      words_are = ap (λ rest. keyword ∷ rest) (found.words_are ∙ ap (λ rest. found.word ∷ rest) end.0);
      spelled = record {
        spelled = subst (λ n. SpellsNumber 10 10 n found.word) end.1 found.spelled;
        small = omega (arith, found.greatest, end.1);
      };
    }

pub last_number_only : (number : ℕ) (word : List ℕ) → SpellsFourOctets number word → last_number_at (word ∷ []) ≡ Some number
unfolding last_number_at
last_number_only number word spelled = goes_on _ _ _ (numeral_only 10 0 4294967295 number word [] spelled.spelled (omega arith) (omega (arith, spelled.small)))

pub last_octets_found : (keyword : List ℕ) (words : List (List ℕ)) (octets : List ℕ) → last_octets_at words ≡ Some octets → SpellsOne keyword (SpellsOctets octets) (keyword ∷ words)
unfolding last_octets_at
last_octets_found keyword words octets e =
    let read = begun _ _ _ e in
    let found = next_octets_found words read.0 read.1 in
    let end = last_found read.0.0 read.0.1 octets read.2 in
    record {
      word = found.word;
      words_are = ap (λ rest. keyword ∷ rest) (found.words_are ∙ ap (λ rest. found.word ∷ rest) end.0);
      spelled = subst (λ xs. SpellsOctets xs found.word) end.1 found.spelled;
    }

pub last_octets_only : (octets word : List ℕ) → SpellsOctets octets word → last_octets_at (word ∷ []) ≡ Some octets
unfolding last_octets_at
last_octets_only octets word spelled = goes_on _ _ _ (next_octets_only octets word [] spelled)
