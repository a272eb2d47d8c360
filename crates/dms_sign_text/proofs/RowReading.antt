-- What the lines of permanent rows spell is what is read of them.
use Rattle.std.proofs.Common.{◌≡◌, ℕ, List, [], ◌∷◌, ◌++◌, Option, Some, None, map, refl, sym, ap, subst, ◌∙◌, arith, append_assoc}
use Rattle.std.specs.Prelude.{codes}
use Rattle.std.proofs.lemmas.Option.{same_Some}
use Rattle.std.proofs.lemmas.List.{append-nil, map-append}
use Rattle.dms_text.specs.Words.{words_of}
use Rattle.dms_text.proofs.WordLaws.{begun, begun_as, goes_on, word_found, word_only, keyword_found, keyword_only, decimal_found, decimal_only, octets_found, octets_only, octets_some}
use Rattle.dms_table.specs.Rows.{RowModel}
use Rattle.dms_text_forms.specs.Fields.{SpellsEach, SpellsOctet}
use Rattle.dms_sign_text.specs.Description.{SpellsPermanent, SpellsPermanentLine}
use Rattle.dms_sign_text.specs.DescriptionReading.{RowWords, row_words, row_of, rows_then, rows_from}
use Rattle.dms_sign_text.specs.declared.rows.OwnedRow.{OwnedRow}
use Rattle.dms_sign_text.specs.Views.{row_seen}
use Rattle.dms_text_forms.proofs.WordReading.{last_found}

-- ---- one row

record FoundRow (words : List (List ℕ)) (said : RowWords) : Type 0 where
  beacon_word : List ℕ
  pixel_word : List ℕ
  priority_word : List ℕ
  words_are : words ≡ codes "permanent" ∷ said.text ∷ said.owner ∷ beacon_word ∷ pixel_word ∷ priority_word ∷ []
  beacon : SpellsOctet said.beacon beacon_word
  pixel : SpellsOctet said.pixel pixel_word
  priority : SpellsOctet said.priority priority_word

row_words_found : (words : List (List ℕ)) (said : RowWords) → row_words words ≡ Some said → FoundRow words said
unfolding row_words
row_words_found words said e =
    let read = begun_as _ _ _ (keyword_found (codes "permanent") words) e in
    let text = begun_as _ _ _ (word_found read.0) read.2 in
    let owner = begun_as _ _ _ (word_found text.0.1) text.2 in
    let beacon = begun_as _ _ _ (decimal_found 0 255 owner.0.1) owner.2 in
    let pixel = begun_as _ _ _ (decimal_found 0 255 beacon.0.1) beacon.2 in
    let priority = begun_as _ _ _ (decimal_found 0 255 pixel.0.1) pixel.2 in
    let end = last_found _ _ said priority.2 in
    subst (λ (line : RowWords). FoundRow words line) end.1 (record {
      beacon_word = beacon.1.word;
      pixel_word = pixel.1.word;
      priority_word = priority.1.word;
      words_are = read.1
          ∙ ap (λ rest. codes "permanent" ∷ rest) (text.1.0
          ∙ ap (λ rest. text.0.0 ∷ rest) (owner.1.0
          ∙ ap (λ rest. owner.0.0 ∷ rest) (beacon.1.words_are
          ∙ ap (λ rest. beacon.1.word ∷ rest) (pixel.1.words_are
          ∙ ap (λ rest. pixel.1.word ∷ rest) (priority.1.words_are ∙ ap (λ rest. priority.1.word ∷ rest) end.0)))));
      beacon = beacon.1.spelled;
      pixel = pixel.1.spelled;
      priority = priority.1.spelled;
    })

row_found : (words : List (List ℕ)) (row : RowModel) → row_of words ≡ Some row → SpellsPermanent row words
unfolding row_of
row_found words row e =
    let said = begun_as _ _ _ (row_words_found words) e in
    let text = begun _ _ _ said.2 in
    let owner = begun _ _ _ text.2 in
    subst (λ (read : RowModel). SpellsPermanent read words) (same_Some _ _ owner.2) (record {
      text_word = said.0.text;
      owner_word = said.0.owner;
      beacon_word = said.1.beacon_word;
      pixel_word = said.1.pixel_word;
      priority_word = said.1.priority_word;
      words_are = said.1.words_are;
      text = octets_found text.0 said.0.text text.1;
      owner = octets_found owner.0 said.0.owner owner.1;
      beacon = said.1.beacon;
      pixel = said.1.pixel;
      priority = said.1.priority;
      status = refl;
    })

row_only : (words : List (List ℕ)) (row : RowModel) → SpellsPermanent row words → row_of words ≡ Some row
unfolding row_of row_words
row_only words row spelled = grind (arith, goes_on, keyword_only, word_only, octets_some, decimal_only, octets_only)

-- ---- all rows

-- the rows of the first lines
pub record FoundRows (rows : List RowModel) (lines : List (List ℕ)) : Type 0 where
  pub more : List RowModel
  pub prefix : List (List ℕ)
  pub rows_are : (rows_from rows lines).0 ≡ rows ++ more
  pub lines_are : lines ≡ prefix ++ (rows_from rows lines).1
  pub spelled : SpellsEach SpellsPermanentLine more prefix

no_more : (rows : List RowModel) (lines : List (List ℕ)) → rows_from rows lines ≡ (rows, lines) → FoundRows rows lines
no_more rows lines e = record {
  more = [];
  prefix = [];
  rows_are = ap (λ (found : List RowModel × List (List ℕ)). found.0) e ∙ sym (append-nil rows);
  lines_are = sym (ap (λ (found : List RowModel × List (List ℕ)). found.1) e);
  spelled = refl;
}

one_row_more : (rows : List RowModel) (line : List ℕ) (lines : List (List ℕ)) (row : RowModel) → SpellsPermanentLine row line → rows_from rows (line ∷ lines) ≡ rows_from (rows ++ row ∷ []) lines
    → FoundRows (rows ++ row ∷ []) lines → FoundRows rows (line ∷ lines)
one_row_more rows line lines row spelled e found = record {
  more = row ∷ found.more;
  prefix = line ∷ found.prefix;
  rows_are = ap (λ (all : List RowModel × List (List ℕ)). all.0) e ∙ found.rows_are ∙ append_assoc rows (row ∷ []) found.more;
  lines_are = ap (λ rest. line ∷ rest) found.lines_are ∙ ap (λ (all : List RowModel × List (List ℕ)). line ∷ (found.prefix ++ all.1)) (sym e);
  spelled = (spelled, found.spelled);
}

pub rows_found : (lines : List (List ℕ)) (rows : List RowModel) → FoundRows rows lines
unfolding rows_from
rows_found [] rows = no_more rows [] refl
rows_found (line ∷ lines) rows = by_row (λ row. rows_found lines (rows ++ row ∷ [])) (row_of (words_of line)) refl
  where
    by_row : ((row : RowModel) → FoundRows (rows ++ row ∷ []) lines) → (found : Option RowModel) → row_of (words_of line) ≡ found → FoundRows rows (line ∷ lines)
    by_row more None e = no_more rows (line ∷ lines) (ap (rows_then (λ longer. rows_from longer lines) rows (line ∷ lines)) e)
    by_row more (Some row) e =
        one_row_more rows line lines row (row_found (words_of line) row e) (ap (rows_then (λ longer. rows_from longer lines) rows (line ∷ lines)) e) (more row)

pub rows_only : (more : List RowModel) (prefix rest : List (List ℕ)) (rows : List RowModel) → SpellsEach SpellsPermanentLine more prefix
    → ((all : List RowModel) → rows_from all rest ≡ (all, rest)) → rows_from rows (prefix ++ rest) ≡ (rows ++ more, rest)
unfolding rows_from
rows_only [] prefix rest rows spelled ends =
    ap (λ lines. rows_from rows (lines ++ rest)) spelled ∙ ends rows ∙ ap (λ all. (all, rest)) (sym (append-nil rows))
rows_only (row ∷ more) [] rest rows spelled ends = absurd spelled
rows_only (row ∷ more) (line ∷ prefix) rest rows spelled ends =
    ap (rows_then (λ longer. rows_from longer (prefix ++ rest)) rows (line ∷ (prefix ++ rest))) (row_only (words_of line) row spelled.0)
    ∙ rows_only more prefix rest (rows ++ row ∷ []) spelled.1 ends
    ∙ ap (λ all. (all, rest)) (append_assoc rows (row ∷ []) more)

-- a line that begins with another word is no row
pub no_row : (rows : List RowModel) (line : List ℕ) (lines : List (List ℕ)) → row_of (words_of line) ≡ None → rows_from rows (line ∷ lines) ≡ (rows, line ∷ lines)
unfolding rows_from
no_row rows line lines e = ap (rows_then (λ longer. rows_from longer lines) rows (line ∷ lines)) e

-- a row more is read
pub row_on : (rows longer : List OwnedRow) (row : OwnedRow) (lines others left start : List (List ℕ)) (line : List ℕ) → rows_from (map row_seen rows) lines ≡ rows_from [] start → lines ≡ line ∷ others
    → Some (row_seen row) ≡ row_of (words_of line) → longer ≡ rows ++ row ∷ [] → left ≡ others → rows_from (map row_seen longer) left ≡ rows_from [] start
unfolding rows_from
row_on rows longer row lines others left start line so_far is said grown rest =
    ap (λ owned. rows_from (map row_seen owned) left) grown
    ∙ ap (λ seen. rows_from seen left) (map-append row_seen rows (row ∷ []))
    ∙ ap (rows_from (map row_seen rows ++ row_seen row ∷ [])) rest
    ∙ ap (rows_then (λ all. rows_from all others) (map row_seen rows) (line ∷ others)) said
    ∙ sym (ap (rows_from (map row_seen rows)) is)
    ∙ so_far
