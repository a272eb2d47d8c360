-- A line whose words are all as they are wanted is read.
use Rattle.std.proofs.Common.{◌≡◌, ℕ, ◌+◌, true, cond, List, [], ◌∷◌, Option, Some, None, refl, sym, ap, ◌∙◌, is_some}
use Rattle.std.specs.Prelude.{codes}
use Rattle.std.specs.List.{join_with_byte}
use Rattle.std.proofs.lemmas.List.Splits.{join_with_byte-slice_split}
use Rattle.dms_text.specs.Words.{words_of}
use Rattle.dms_text.specs.Reading.{number_of, within, word_at, keyword_at, decimal_at, octets_of, version_of, is_end, ◌>>=◌}
use Rattle.dms_text.proofs.WordLaws.{goes_on, keyword_found}
use Rattle.dms_face_font.specs.Font.{FontModel}
use Rattle.dms_face_font.specs.FontReading.{labelled_at, version_at, header_of, GlyphWords, glyph_words}
use Rattle.dms_table.specs.Rows.{RowModel}
use Rattle.dms_text_forms.specs.Form.{is_from, is_wanted, fault_from, word_fault}
use Rattle.dms_text_forms.specs.FieldsReading.{if_last}
use Rattle.dms_text_forms.specs.Vocabulary.{keyword_text}
use Rattle.dms_text_forms.specs.declared.vocabulary.Keyword.{Keyword}
use Rattle.dms_text_forms.specs.declared.vocabulary.Keyword.TheVariants as keywords
use Rattle.dms_text_forms.specs.declared.vocabulary.WordName.{WordName}
use Rattle.dms_text_forms.specs.declared.wanted.Wanted.{Wanted}
use Rattle.dms_text_forms.specs.declared.wanted.Wanted.TheVariants as wanted
use Rattle.dms_sign_text_causes.specs.Forms.{form_words}
use Rattle.dms_sign_text_causes.specs.declared.forms.DescriptionLine.TheVariants as forms
use Rattle.dms_sign_text.specs.DescriptionReading.{RowWords, row_words, row_of}
use Rattle.dms_sign_text.proofs.MadeLaws.{none_after}

-- ---- one word

-- the next word is what is wanted, and those after it are as they are wanted
pub record Fits (place : ℕ) (it : Wanted) (more : List Wanted) (words : List (List ℕ)) : Type 0 where
  pub word : List ℕ
  pub rest : List (List ℕ)
  pub found : word_at words ≡ Some (word, rest)
  pub fits : is_wanted it word ≡ true
  pub others : fault_from (place + 1) more rest ≡ None

pub fitting : (place : ℕ) (it : Wanted) (more : List Wanted) (words : List (List ℕ)) → fault_from place (it ∷ more) words ≡ None → Fits place it more words
unfolding fault_from word_at
fitting place it more [] e = absurd (cc)
fitting place it more ([] ∷ words) e = absurd (cc)
fitting place it more ((octet ∷ octets) ∷ words) e =
    let parts = none_after (is_wanted it (octet ∷ octets)) (fault_from (place + 1) more words) _ e in
    record { word = octet ∷ octets; rest = words; found = refl; fits = parts.0; others = parts.1 }

-- no more words are wanted
pub ended : (place : ℕ) (words : List (List ℕ)) → fault_from place [] words ≡ None → words ≡ []
unfolding fault_from
ended place [] e = refl
ended place (word ∷ words) e = absurd (cc)

some_is : {A : Type 0} (o : Option A) → is_some o ≡ true → (x : A) × (o ≡ Some x)
some_is None e = absurd (cc)
some_is (Some x) e = (x, refl)

-- a word that stands as it is
keyword_fits : (place : ℕ) (keyword : Keyword) (more : List Wanted) (words : List (List ℕ)) → fault_from place (wanted.Keyword keyword ∷ more) words ≡ None
    → (rest : List (List ℕ)) × (keyword_at (keyword_text keyword) words ≡ Some rest) × (fault_from (place + 1) more rest ≡ None)
unfolding keyword_at
keyword_fits place keyword more words e =
    let next = fitting place (wanted.Keyword keyword) more words e in
    (next.rest, goes_on _ _ _ next.found ∙ ap (λ b. cond b (Some next.rest) None) next.fits, next.others)

pub within_fits : (low high : ℕ) (read : Option ℕ) → is_from low high read ≡ true → (number : ℕ) × ((read >>= within low high) ≡ Some number)
within_fits low high None e = absurd (cc)
within_fits low high (Some number) e = (number, ap (λ b. cond b (Some number) None) e)

abbrev paired : List (List ℕ) → ℕ → Option (ℕ × List (List ℕ))
paired rest number = Some (number, rest)

pub then_within : (low high : ℕ) (read : Option ℕ) (number : ℕ) (rest : List (List ℕ)) → (read >>= within low high) ≡ Some number
    → (read >>= λ value. within low high value >>= paired rest) ≡ Some (number, rest)
then_within low high None number rest e = absurd (let wrong : None ≡ Some number = e in cc)
then_within low high (Some value) number rest e = ap (λ (o : Option ℕ). o >>= paired rest) e

-- a number of one to five digits
pub number_fits : (place low high : ℕ) (more : List Wanted) (words : List (List ℕ)) → fault_from place (wanted.Number low high ∷ more) words ≡ None
    → (found : ℕ × List (List ℕ)) × (decimal_at 5 low high words ≡ Some found) × (fault_from (place + 1) more found.1 ≡ None)
unfolding decimal_at
number_fits place low high more words e =
    let next = fitting place (wanted.Number low high) more words e in
    let number = within_fits low high (number_of 10 5 next.word) next.fits in
    ((number.0, next.rest), goes_on _ _ _ next.found ∙ then_within low high (number_of 10 5 next.word) number.0 next.rest number.1, next.others)

-- octets
pub octets_fit : (place : ℕ) (name : WordName) (more : List Wanted) (words : List (List ℕ)) → fault_from place (wanted.Octets name ∷ more) words ≡ None
    → (found : List ℕ × List (List ℕ)) × (word_at words ≡ Some found) × ((octets : List ℕ) × (octets_of found.0 ≡ Some octets)) × (fault_from (place + 1) more found.1 ≡ None)
octets_fit place name more words e =
    let next = fitting place (wanted.Octets name) more words e in
    ((next.word, next.rest), next.found, some_is (octets_of next.word) next.fits, next.others)

-- ---- permanent rows

pub row_fits : (words : List (List ℕ)) → word_fault (form_words forms.Permanent) words ≡ None → (row : RowModel) × (row_of words ≡ Some row)
unfolding row_of row_words
row_fits words e =
    let read = keyword_fits 1 keywords.Permanent _ words e in
    let text = octets_fit _ _ _ read.0 read.2 in
    let owner = octets_fit _ _ _ text.0.1 text.3 in
    let beacon = number_fits _ 0 255 _ owner.0.1 owner.3 in
    let pixel = number_fits _ 0 255 _ beacon.0.1 beacon.2 in
    let priority = number_fits _ 0 255 _ pixel.0.1 pixel.2 in
    let end = ended _ priority.0.1 priority.2 in
    let said : RowWords = record { text = text.0.0; owner = owner.0.0; beacon = beacon.0.0; pixel = pixel.0.0; priority = priority.0.0 } in
    let line : row_words words ≡ Some said = goes_on _ _ _ read.1 ∙ goes_on _ _ _ text.1 ∙ goes_on _ _ _ owner.1 ∙ goes_on _ _ _ beacon.1
    ∙ goes_on _ _ _ pixel.1 ∙ goes_on _ _ _ priority.1 ∙ ap (if_last said) end in
    (_, goes_on _ _ _ line ∙ goes_on _ _ _ text.2.1 ∙ goes_on _ _ _ owner.2.1)

-- ---- the first lines of fonts

-- a label, and the number after it
labelled_fits : (place : ℕ) (label : Keyword) (low high : ℕ) (more : List Wanted) (words : List (List ℕ)) → fault_from place (wanted.Keyword label ∷ wanted.Number low high ∷ more) words ≡ None
    → (found : ℕ × List (List ℕ)) × (labelled_at (keyword_text label) low high words ≡ Some found) × (fault_from ((place + 1) + 1) more found.1 ≡ None)
unfolding labelled_at
labelled_fits place label low high more words e =
    let read = keyword_fits place label _ words e in
    let number = number_fits _ low high more read.0 read.2 in
    (number.0, goes_on _ _ _ read.1 ∙ number.1, number.2)

version_fits : (place : ℕ) (words : List (List ℕ)) → fault_from place (wanted.Keyword keywords.Version ∷ wanted.Version ∷ []) words ≡ None
    → (version : ℕ) × (version_at words ≡ Some version)
unfolding version_at
version_fits place words e =
    let read = keyword_fits place keywords.Version _ words e in
    let next = fitting _ wanted.Version [] read.0 read.2 in
    let version = some_is _ next.fits in
    (version.0, goes_on _ _ _ read.1 ∙ goes_on _ _ _ next.found ∙ ap (λ (rest : List (List ℕ)). cond (is_end rest) (version_of next.word) None) (ended _ next.rest next.others) ∙ version.1)

pub header_fits : (words : List (List ℕ)) → word_fault (form_words forms.Font) words ≡ None → (font : FontModel) × (header_of words ≡ Some font)
unfolding header_of
header_fits words e =
    let number = labelled_fits 1 keywords.Font 1 255 _ words e in
    let height = labelled_fits _ keywords.Height 1 32 _ number.0.1 number.2 in
    let character = labelled_fits _ keywords.Space 0 32 _ height.0.1 height.2 in
    let line = labelled_fits _ keywords.Line 0 32 _ character.0.1 character.2 in
    let version = version_fits _ line.0.1 line.2 in
    (_, goes_on _ _ _ number.1 ∙ goes_on _ _ _ height.1 ∙ goes_on _ _ _ character.1 ∙ goes_on _ _ _ line.1 ∙ goes_on _ _ _ version.1)

-- ---- characters

pub glyph_fits : (words : List (List ℕ)) → word_fault (form_words forms.Glyph) words ≡ None → (said : GlyphWords) × (glyph_words words ≡ Some said)
unfolding glyph_words
glyph_fits words e =
    let read = keyword_fits 1 keywords.Glyph _ words e in
    let character = number_fits _ 1 65535 _ read.0 read.2 in
    let width = number_fits _ 1 32 _ character.0.1 character.2 in
    let bits = octets_fit _ _ _ width.0.1 width.2 in
    let said : GlyphWords = record { character = character.0.0; width = width.0.0; bits = bits.0.0 } in
    (said, goes_on _ _ _ read.1 ∙ goes_on _ _ _ character.1 ∙ goes_on _ _ _ width.1 ∙ goes_on _ _ _ bits.1 ∙ ap (if_last said) (ended _ bits.0.1 bits.3))

-- ---- the line `end`

pub end_fits : (line : List ℕ) → word_fault (form_words forms.End) (words_of line) ≡ None → line ≡ codes "end"
end_fits line e =
    let read = keyword_fits 1 keywords.End [] (words_of line) e in
    let words : words_of line ≡ codes "end" ∷ [] = keyword_found (codes "end") (words_of line) read.0 read.1 ∙ ap (λ rest. codes "end" ∷ rest) (ended _ read.0 read.2) in
    sym (join_with_byte-slice_split 32 line) ∙ ap (join_with_byte 32) words
