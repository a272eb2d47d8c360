-- The line at which the reader of rows and fonts stops has a cause, where it is not `end`.
use Rattle.std.proofs.Common.{◌≡◌, ℕ, true, false, List, [], ◌∷◌, ◌++◌, Option, Some, None, Result, Ok, Err, refl, sym, ap, ◌∙◌, arith}
use Rattle.std.specs.Prelude.{codes}
use Rattle.dms_text.specs.Words.{words_of}
use Rattle.dms_text.specs.Reading.{same_octets}
use Rattle.dms_codes.proofs.Options.{mapped_none}
use Rattle.dms_face_font.specs.Font.{FontModel}
use Rattle.dms_face_font.specs.FontReading.{header_of, GlyphWords, bitmap_of, bitmap_or, glyph_with, glyph_said, glyph_read, with_glyph, glyph_added}
use Rattle.dms_face_font.specs.declared.fault.FontFaultKind.{FontFaultKind}
use Rattle.dms_table.specs.Rows.{RowModel}
use Rattle.dms_sign_text_causes.specs.declared.forms.DescriptionLine.TheVariants as forms
use Rattle.dms_sign_text_causes.specs.declared.cause.LineCause.TheVariants as causes
use Rattle.dms_sign_text.specs.declared.body_word.BodyWord.{BodyWord}
use Rattle.dms_sign_text.specs.declared.body_word.BodyWord.TheVariants as body
use Rattle.dms_sign_text.specs.DescriptionReading.{row_of, rows_then, rows_from, fonts_then, fonts_from, fonts_after, fonts_at}
use Rattle.dms_sign_text.specs.Causes.{form_cause, is_no_glyph, glyph_fault, glyph_after, last_font, named_cause}
use Rattle.dms_sign_text.proofs.LastFont.{last_is}
use Rattle.dms_sign_text.proofs.MadeLaws.{none_after}
use Rattle.dms_sign_text.proofs.WordsFit.{row_fits, header_fits, glyph_fits, end_fits}

-- a line begins no font, and is no row where no font stands before it, and else no character of the last font
pub data Stopped (fonts : List FontModel) (line : List ℕ) : Type 0 where
  before_fonts : fonts ≡ [] → header_of (words_of line) ≡ None → row_of (words_of line) ≡ None → Stopped fonts line
  after_font : (font : FontModel) (kind : FontFaultKind) → last_font fonts ≡ Some font → header_of (words_of line) ≡ None
      → glyph_added font line ≡ Err kind → Stopped fonts line

-- ---- where the reader stops

-- the line after the permanent rows is none
pub rows_stop : (lines : List (List ℕ)) (rows all : List RowModel) (line : List ℕ) (rest : List (List ℕ)) → rows_from rows lines ≡ (all, line ∷ rest) → row_of (words_of line) ≡ None
unfolding rows_from
rows_stop [] rows all line rest e = absurd (let wrong : [] ≡ line ∷ rest = ap (λ (found : List RowModel × List (List ℕ)). found.1) e in cc)
rows_stop (first ∷ lines) rows all line rest e = by_row (λ row. rows_stop lines (rows ++ row ∷ []) all line rest) (row_of (words_of first)) refl
  where
    by_row : ((row : RowModel) → rows_from (rows ++ row ∷ []) lines ≡ (all, line ∷ rest) → row_of (words_of line) ≡ None) → (found : Option RowModel)
        → row_of (words_of first) ≡ found → row_of (words_of line) ≡ None
    by_row more None is =
        let left : first ∷ lines ≡ line ∷ rest =
        ap (λ (found : List RowModel × List (List ℕ)). found.1) (sym (ap (rows_then (λ longer. rows_from longer lines) rows (first ∷ lines)) is) ∙ e) in
        let same : first ≡ line = cc in
        ap (λ octets. row_of (words_of octets)) (sym same) ∙ is
    by_row more (Some row) is = more row (sym (ap (rows_then (λ longer. rows_from longer lines) rows (first ∷ lines)) is) ∙ e)

-- the line after the open font
fonts_stop : (lines : List (List ℕ)) (fonts all : List FontModel) (font : FontModel) (line : List ℕ) (rest : List (List ℕ)) → fonts_from fonts font lines ≡ (all, line ∷ rest) → Stopped all line
unfolding fonts_from
fonts_stop [] fonts all font line rest e = absurd (let wrong : [] ≡ line ∷ rest = ap (λ (found : List FontModel × List (List ℕ)). found.1) e in cc)
fonts_stop (first ∷ lines) fonts all font line rest e =
    by_line (λ closed open_font. fonts_stop lines closed all open_font line rest) (glyph_added font first) (header_of (words_of first)) refl refl
  where
    by_line : ((closed : List FontModel) (open_font : FontModel) → fonts_from closed open_font lines ≡ (all, line ∷ rest) → Stopped all line)
        → (added : Result FontModel FontFaultKind) (header : Option FontModel) → glyph_added font first ≡ added → header_of (words_of first) ≡ header → Stopped all line
    by_line more (Ok longer) header is begins =
        more fonts longer (sym (ap (λ added. fonts_then (λ closed open_font. fonts_from closed open_font lines) fonts font (first ∷ lines) added (header_of (words_of first))) is) ∙ e)
    by_line more (Err kind) (Some next) is begins =
        more (fonts ++ font ∷ []) next
        (sym (ap (λ added. fonts_then (λ closed open_font. fonts_from closed open_font lines) fonts font (first ∷ lines) added (header_of (words_of first))) is
        ∙ ap (fonts_then (λ closed open_font. fonts_from closed open_font lines) fonts font (first ∷ lines) (Err kind)) begins) ∙ e)
    by_line more (Err kind) None is begins =
        let found : (fonts ++ font ∷ [], first ∷ lines) ≡ (all, line ∷ rest) =
        sym (ap (λ added. fonts_then (λ closed open_font. fonts_from closed open_font lines) fonts font (first ∷ lines) added (header_of (words_of first))) is
        ∙ ap (fonts_then (λ closed open_font. fonts_from closed open_font lines) fonts font (first ∷ lines) (Err kind)) begins) ∙ e in
        let left : first ∷ lines ≡ line ∷ rest = ap (λ (pair : List FontModel × List (List ℕ)). pair.1) found in
        let same : first ≡ line = cc in
        after_font font kind (ap (λ (pair : List FontModel × List (List ℕ)). last_font pair.0) (sym found) ∙ last_is fonts font)
        (ap (λ octets. header_of (words_of octets)) (sym same) ∙ begins) (ap (glyph_added font) (sym same) ∙ is)

-- the line after all fonts, of lines of which the first is no row
pub all_stop : (lines : List (List ℕ)) (all : List FontModel) (line : List ℕ) (rest : List (List ℕ)) → ((first : List ℕ) (others : List (List ℕ)) → lines ≡ first ∷ others → row_of (words_of first) ≡ None)
    → fonts_at lines ≡ (all, line ∷ rest) → Stopped all line
unfolding fonts_at
all_stop [] all line rest no_row e = absurd (let wrong : [] ≡ line ∷ rest = ap (λ (found : List FontModel × List (List ℕ)). found.1) e in cc)
all_stop (first ∷ lines) all line rest no_row e = by_header (header_of (words_of first)) refl
  where
    by_header : (header : Option FontModel) → header_of (words_of first) ≡ header → Stopped all line
    by_header None is =
        let found : ([], first ∷ lines) ≡ (all, line ∷ rest) = sym (ap (fonts_after (first ∷ lines) lines) is) ∙ e in
        let left : first ∷ lines ≡ line ∷ rest = ap (λ (pair : List FontModel × List (List ℕ)). pair.1) found in
        let same : first ≡ line = cc in
        before_fonts (sym (ap (λ (pair : List FontModel × List (List ℕ)). pair.0) found)) (ap (λ octets. header_of (words_of octets)) (sym same) ∙ is)
        (ap (λ octets. row_of (words_of octets)) (sym same) ∙ no_row first lines refl)
    by_header (Some font) is = fonts_stop lines [] all font line rest (sym (ap (fonts_after (first ∷ lines) lines) is) ∙ e)

-- ---- such a line has a cause

no_form : {A : Type 0} (read : Option A) (found : (value : A) × (read ≡ Some value)) → read ≡ None → ⊥
no_form read found none = absurd (let wrong : Some found.0 ≡ None = sym found.1 ∙ none in cc)

-- a character with its words is refused for something else
other_kind : (font : FontModel) (words : GlyphWords) (bitmap : Option (List ℕ)) (kind : FontFaultKind) → with_glyph font (glyph_with words font.height (bitmap_or bitmap)) ≡ Err kind
    → is_no_glyph kind ≡ false
other_kind font words bitmap kind e = grind arith

glyph_refused : (font : FontModel) (line : List ℕ) (kind : FontFaultKind) → glyph_added font line ≡ Err kind → glyph_fault line (Err kind) ≡ None → ⊥
unfolding glyph_added glyph_read
glyph_refused font line kind added none =
    let parts = none_after (is_no_glyph kind) (form_cause forms.Glyph line) (causes.Glyph kind) none in
    let words = glyph_fits (words_of line) (mapped_none causes.Word _ parts.1) in
    let other : is_no_glyph kind ≡ false =
    other_kind font words.0 (bitmap_of words.0.width font.height words.0.bits) kind (sym (ap (λ said. with_glyph font (glyph_said font.height said)) words.1) ∙ added) in
    absurd (let wrong : true ≡ false = sym parts.0 ∙ other in cc)

glyph_stopped : (fonts : List FontModel) (line : List ℕ) → Stopped fonts line → glyph_after line (last_font fonts) ≡ None → ⊥
glyph_stopped fonts line (before_fonts none header row) e = absurd (let wrong : Some causes.GlyphBeforeFont ≡ None = sym (ap (λ all. glyph_after line (last_font all)) none) ∙ e in cc)
glyph_stopped fonts line (after_font font kind last header added) e =
    glyph_refused font line kind added (sym (ap (glyph_after line) last ∙ ap (glyph_fault line) added) ∙ e)

row_stopped : (fonts : List FontModel) (line : List ℕ) → Stopped fonts line → named_cause (Some body.Permanent) fonts line ≡ None → ⊥
row_stopped [] line (before_fonts none header row) e = no_form _ (row_fits (words_of line) (mapped_none causes.Word _ e)) row
row_stopped [] line (after_font font kind last header added) e = absurd (let wrong : None ≡ Some font = last in cc)
row_stopped (font ∷ fonts) line stopped e = absurd (cc)

header_stopped : (fonts : List FontModel) (line : List ℕ) → Stopped fonts line → header_of (words_of line) ≡ None
header_stopped fonts line (before_fonts none header row) = header
header_stopped fonts line (after_font font kind last header added) = header

same_self : (octets : List ℕ) → same_octets octets octets ≡ true
same_self [] = refl
same_self (octet ∷ octets) = grind (arith, same_self octets)

pub stopped_has_cause : (word : Option BodyWord) (fonts : List FontModel) (line : List ℕ) → same_octets line (codes "end") ≡ false → Stopped fonts line → named_cause word fonts line ≡ None → ⊥
stopped_has_cause (Some body.Permanent) fonts line other stopped e = row_stopped fonts line stopped e
stopped_has_cause (Some body.Font) fonts line other stopped e = no_form _ (header_fits (words_of line) (mapped_none causes.Word _ e)) (header_stopped fonts line stopped)
stopped_has_cause (Some body.Glyph) fonts line other stopped e = glyph_stopped fonts line stopped e
stopped_has_cause (Some body.End) fonts line other stopped e =
    absurd (let wrong : true ≡ false = sym (ap (λ octets. same_octets octets (codes "end")) (end_fits line (mapped_none causes.Word _ e))) ∙ other in cc)
stopped_has_cause None fonts line other stopped e = absurd (cc)
