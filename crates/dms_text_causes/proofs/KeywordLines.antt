-- A line that begins with a keyword is read of the words after it, and what is read is what it spells, of whichever kind
-- it is.
use Rattle.std.proofs.Common.{◌≡◌, ℕ, ◌<◌, List, ◌∷◌, length, Option, Some, sym, ap, subst, ◌∙◌}
use Rattle.dms_text.specs.Words.{words_of}
use Rattle.dms_text.specs.Reading.{word_at, ◌>>=◌}
use Rattle.dms_text.proofs.WordLaws.{begun, goes_on, word_found, word_only}

-- what is read is spelled, where it is so after each keyword
pub line_found : {K A : Type 0} (keyword_of : List ℕ → Option K) (keyword_text : K → List ℕ) (read_after : K → List (List ℕ) → Option A) (Spells : A → List (List ℕ) → Type 0)
    → ((word : List ℕ) (keyword : K) → keyword_of word ≡ Some keyword → word ≡ keyword_text keyword)
    → ((keyword : K) (words : List (List ℕ)) (value : A) → read_after keyword words ≡ Some value → Spells value (keyword_text keyword ∷ words))
    → (line : List ℕ) (value : A)
    → (word_at (words_of line) >>= (λ found. keyword_of found.0 >>= (λ keyword. read_after keyword found.1))) ≡ Some value
    → Spells value (words_of line)
line_found keyword_of keyword_text read_after Spells keyword_found after_found line value e =
    let read = begun _ _ _ e in
    let keyword = begun _ _ _ read.2 in
    let words : words_of line ≡ keyword_text keyword.0 ∷ read.0.1 =
    (word_found (words_of line) read.0 read.1).0 ∙ ap (λ word. word ∷ read.0.1) (keyword_found read.0.0 keyword.0 keyword.1) in
    subst (Spells value) (sym words) (after_found keyword.0 read.0.1 value keyword.2)

-- a line of a keyword is what the words after it are
pub line_read : {K A : Type 0} (keyword_of : List ℕ → Option K) (keyword_text : K → List ℕ) (read_after : K → List (List ℕ) → Option A)
    → ((keyword : K) → 0 < length (keyword_text keyword)) → ((keyword : K) → keyword_of (keyword_text keyword) ≡ Some keyword)
    → (keyword : K) (line : List ℕ) (words : List (List ℕ)) → words_of line ≡ keyword_text keyword ∷ words
    → (word_at (words_of line) >>= (λ found. keyword_of found.0 >>= (λ keyword. read_after keyword found.1))) ≡ read_after keyword words
line_read keyword_of keyword_text read_after some only keyword line words e =
    goes_on _ _ _ (ap word_at e ∙ word_only (keyword_text keyword) words (some keyword)) ∙ goes_on _ _ _ (only keyword)
