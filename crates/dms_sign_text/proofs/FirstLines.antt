-- The first seven lines of a description, read one after another.
use Rattle.std.proofs.Common.{◌≡◌, ℕ, List, [], ◌∷◌, Option, Some, None, refl, ap, subst, ◌∙◌, arith}
use Rattle.std.proofs.lemmas.Option.{same_Some}
use Rattle.dms_text.specs.Words.{words_of}
use Rattle.dms_text.proofs.WordLaws.{begun, begun_as, goes_on}
use Rattle.dms_sign_text.specs.DescriptionReading.{size_of, communities_of, row_counts_of, order_of, services_of, defaults_of, first_of, line_at, BeginningModel, beginning_at, HeadModel, head_at}

record FoundLine {A : Type 0} (read : List (List ℕ) → Option A) (lines : List (List ℕ)) (found : A × List (List ℕ)) : Type 0 where
  line : List ℕ
  lines_are : lines ≡ line ∷ found.1
  said : read (words_of line) ≡ Some found.0

line_found : {A : Type 0} (read : List (List ℕ) → Option A) (lines : List (List ℕ)) (found : A × List (List ℕ)) → line_at read lines ≡ Some found → FoundLine read lines found
line_found read [] found e = absurd (let none : None ≡ Some found = e in cc)
line_found {A} read (line ∷ lines) found e =
    let value = begun _ _ _ e in
    let same : (value.0, lines) ≡ found = same_Some _ _ value.2 in
    subst (λ (pair : A × List (List ℕ)). FoundLine read (line ∷ lines) pair) same (record { line = line; lines_are = refl; said = value.1 })

line_only : {A : Type 0} (read : List (List ℕ) → Option A) (line : List ℕ) (lines : List (List ℕ)) (value : A) → read (words_of line) ≡ Some value
    → line_at read (line ∷ lines) ≡ Some (value, lines)
line_only read line lines value e = goes_on _ _ _ e

-- ---- four lines

record FoundBeginning (lines : List (List ℕ)) (found : BeginningModel × List (List ℕ)) : Type 0 where
  size_line : List ℕ
  communities_line : List ℕ
  rows_line : List ℕ
  order_line : List ℕ
  lines_are : lines ≡ size_line ∷ communities_line ∷ rows_line ∷ order_line ∷ found.1
  size : size_of (words_of size_line) ≡ Some found.0.size
  communities : communities_of (words_of communities_line) ≡ Some found.0.communities
  rows : row_counts_of (words_of rows_line) ≡ Some found.0.rows
  order : order_of (words_of order_line) ≡ Some found.0.order

beginning_found : (lines : List (List ℕ)) (found : BeginningModel × List (List ℕ)) → beginning_at lines ≡ Some found → FoundBeginning lines found
unfolding beginning_at
beginning_found lines found e = grind arith

beginning_only : (it : BeginningModel) (size_line communities_line rows_line order_line : List ℕ) (rest : List (List ℕ)) → size_of (words_of size_line) ≡ Some it.size
    → communities_of (words_of communities_line) ≡ Some it.communities → row_counts_of (words_of rows_line) ≡ Some it.rows → order_of (words_of order_line) ≡ Some it.order
    → beginning_at (size_line ∷ communities_line ∷ rows_line ∷ order_line ∷ rest) ≡ Some (it, rest)
unfolding beginning_at
beginning_only it size_line communities_line rows_line order_line rest size communities rows order = grind arith

-- ---- seven lines

pub record FoundHead (lines : List (List ℕ)) (found : HeadModel × List (List ℕ)) : Type 0 where
  pub size_line : List ℕ
  pub communities_line : List ℕ
  pub rows_line : List ℕ
  pub order_line : List ℕ
  pub has_line : List ℕ
  pub defaults_line : List ℕ
  pub first_line : List ℕ
  pub lines_are : lines ≡ size_line ∷ communities_line ∷ rows_line ∷ order_line ∷ has_line ∷ defaults_line ∷ first_line ∷ found.1
  pub size : size_of (words_of size_line) ≡ Some found.0.beginning.size
  pub communities : communities_of (words_of communities_line) ≡ Some found.0.beginning.communities
  pub rows : row_counts_of (words_of rows_line) ≡ Some found.0.beginning.rows
  pub order : order_of (words_of order_line) ≡ Some found.0.beginning.order
  pub services : services_of (words_of has_line) ≡ Some found.0.services
  pub defaults : defaults_of (words_of defaults_line) ≡ Some found.0.defaults
  pub first : first_of (words_of first_line) ≡ Some found.0.first

pub head_found : (lines : List (List ℕ)) (found : HeadModel × List (List ℕ)) → head_at lines ≡ Some found → FoundHead lines found
unfolding head_at
head_found lines found e =
    let beginning = begun_as _ _ _ (beginning_found lines) e in
    let services = begun_as _ _ _ (line_found services_of beginning.0.1) beginning.2 in
    let defaults = begun_as _ _ _ (line_found defaults_of services.0.1) services.2 in
    let first = begun_as _ _ _ (line_found first_of defaults.0.1) defaults.2 in
    subst (λ (pair : HeadModel × List (List ℕ)). FoundHead lines pair) (same_Some _ _ first.2) (record {
      size_line = beginning.1.size_line;
      communities_line = beginning.1.communities_line;
      rows_line = beginning.1.rows_line;
      order_line = beginning.1.order_line;
      has_line = services.1.line;
      defaults_line = defaults.1.line;
      first_line = first.1.line;
      lines_are = beginning.1.lines_are
          ∙ ap (λ rest. beginning.1.size_line ∷ beginning.1.communities_line ∷ beginning.1.rows_line ∷ beginning.1.order_line ∷ rest) (services.1.lines_are
          ∙ ap (λ rest. services.1.line ∷ rest) (defaults.1.lines_are ∙ ap (λ rest. defaults.1.line ∷ rest) first.1.lines_are));
      size = beginning.1.size;
      communities = beginning.1.communities;
      rows = beginning.1.rows;
      order = beginning.1.order;
      services = services.1.said;
      defaults = defaults.1.said;
      first = first.1.said;
    })

pub head_only : (head : HeadModel) (size_line communities_line rows_line order_line has_line defaults_line first_line : List ℕ) (rest : List (List ℕ))
    → size_of (words_of size_line) ≡ Some head.beginning.size → communities_of (words_of communities_line) ≡ Some head.beginning.communities
    → row_counts_of (words_of rows_line) ≡ Some head.beginning.rows → order_of (words_of order_line) ≡ Some head.beginning.order
    → services_of (words_of has_line) ≡ Some head.services → defaults_of (words_of defaults_line) ≡ Some head.defaults → first_of (words_of first_line) ≡ Some head.first
    → head_at (size_line ∷ communities_line ∷ rows_line ∷ order_line ∷ has_line ∷ defaults_line ∷ first_line ∷ rest) ≡ Some (head, rest)
unfolding head_at
head_only head size_line communities_line rows_line order_line has_line defaults_line first_line rest size communities rows order services defaults first = grind (arith, goes_on, beginning_only, line_only)
