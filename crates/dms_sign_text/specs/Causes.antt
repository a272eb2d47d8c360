-- Why the lines of a description are refused: the cause that the first line at fault has (this profile).
use Rattle.std.specs.Prelude.{ℕ, Bool, true, false, if◌then◌else◌, List, [], ◌∷◌, ◌++◌, codes}
use Rattle.std.specs.Prelude.{length, Option, Some, None, option_map, Result, Ok, Err}
use Rattle.std.specs.Option.{option_or}
use Rattle.dms_text.specs.Words.{words_of}
use Rattle.dms_text.specs.Reading.{same_octets, word_at, ◌>>=◌}
use Rattle.dms_text_forms.specs.Form.{word_fault}
use Rattle.dms_face_font.specs.Font.{FontModel}
use Rattle.dms_face_font.specs.FontReading.{glyph_added}
use Rattle.dms_face_font.specs.declared.fault.FontFaultKind.{FontFaultKind}
use Rattle.dms_face_font.specs.declared.fault.FontFaultKind.TheVariants.{Header, Glyph, Bitmap, Twice, TooMany, Memory}
use Rattle.dms_face.specs.Face.{FaceModel, checked}
use Rattle.dms_face.specs.declared.fault.FaceFault.{FaceFault}
use Rattle.dms_table.specs.Rows.{RowModel}
use Rattle.dms_text_forms.specs.declared.wanted.Wanted.{Wanted}
use Rattle.dms_sign_text_causes.specs.Forms.{size_words, communities_words, rows_words, order_words, has_words}
use Rattle.dms_sign_text_causes.specs.Forms.{defaults_words, first_words, form_words}
use Rattle.dms_sign_text_causes.specs.declared.forms.DescriptionLine.{DescriptionLine}
use Rattle.dms_sign_text_causes.specs.declared.forms.DescriptionLine.TheVariants as forms
use Rattle.dms_sign_text_causes.specs.SignCauses.{face_cause, communities_cause, counts_cause, rows_cause}
use Rattle.dms_sign_text_causes.specs.declared.sign_causes.SignCause.{SignCause}
use Rattle.dms_sign_text_causes.specs.declared.cause.LineCause.{LineCause}
use Rattle.dms_sign_text_causes.specs.declared.cause.LineCause.TheVariants as causes
use Rattle.dms_sign_text.specs.declared.body_word.BodyWord.{BodyWord}
use Rattle.dms_sign_text.specs.declared.body_word.BodyWord.TheVariants as body
use Rattle.dms_sign_text.specs.Description.{Description}
use Rattle.dms_sign_text.specs.DescriptionReading.{HeadModel, head_at, rows_from, fonts_at, described}

-- ---- the words of a line

-- the first word of a line that is not as it is wanted
abbrev pub words_cause : List Wanted → List ℕ → Option LineCause
words_cause wanted line = option_map causes.Word (word_fault wanted (words_of line))

-- the first word of a line that is not of its form
abbrev pub form_cause : DescriptionLine → List ℕ → Option LineCause
form_cause form line = words_cause (form_words form) line

-- the words of the lines with which a description begins
abbrev pub first_four_words : List (List Wanted)
first_four_words = size_words ∷ communities_words ∷ rows_words ∷ order_words ∷ []

abbrev pub head_words : List (List Wanted)
head_words = first_four_words ++ has_words ∷ defaults_words ∷ first_words ∷ []

-- the first of these lines that has not its words
abbrev pub head_cause : List (List Wanted) → List (List ℕ) → Option LineCause
head_cause [] lines = None
head_cause (wanted ∷ others) [] = Some causes.NoEnd
head_cause (wanted ∷ others) (line ∷ lines) = option_or (words_cause wanted line) (head_cause others lines)

-- ---- a line after the first seven

abbrev pub word_named : List ℕ → Option BodyWord
word_named word =
    if same_octets word (codes "permanent") then Some body.Permanent
    else if same_octets word (codes "font") then Some body.Font
    else if same_octets word (codes "glyph") then Some body.Glyph
    else if same_octets word (codes "end") then Some body.End
    else None

-- the word with which the line begins
abbrev pub body_word : List ℕ → Option BodyWord
body_word line = word_at (words_of line) >>= λ found. word_named found.0

-- the line of a character is none, whatever the font
abbrev pub is_no_glyph : FontFaultKind → Bool
is_no_glyph Header = false
is_no_glyph Glyph = true
is_no_glyph Bitmap = false
is_no_glyph Twice = false
is_no_glyph TooMany = false
is_no_glyph Memory = false

-- a character that a font did not take
abbrev pub glyph_fault : List ℕ → Result FontModel FontFaultKind → Option LineCause
glyph_fault line (Ok font) = None
glyph_fault line (Err kind) = if is_no_glyph kind then form_cause forms.Glyph line else Some (causes.Glyph kind)

abbrev pub last_font : List FontModel → Option FontModel
last_font [] = None
last_font (font ∷ []) = Some font
last_font (font ∷ next ∷ fonts) = last_font (next ∷ fonts)

-- a character after this font
abbrev pub glyph_after : List ℕ → Option FontModel → Option LineCause
glyph_after line None = Some causes.GlyphBeforeFont
glyph_after line (Some font) = glyph_fault line (glyph_added font line)

-- a character after these fonts
abbrev pub glyph_cause : List FontModel → List ℕ → Option LineCause
glyph_cause fonts line = glyph_after line (last_font fonts)

abbrev pub row_line_cause : List FontModel → List ℕ → Option LineCause
row_line_cause [] line = form_cause forms.Permanent line
row_line_cause (font ∷ fonts) line = Some causes.RowAfterFont

abbrev pub named_cause : Option BodyWord → List FontModel → List ℕ → Option LineCause
named_cause (Some body.Permanent) fonts line = row_line_cause fonts line
named_cause (Some body.Font) fonts line = form_cause forms.Font line
named_cause (Some body.Glyph) fonts line = glyph_cause fonts line
named_cause (Some body.End) fonts line = form_cause forms.End line
named_cause None fonts line = Some causes.Keyword

-- a line that is not `end` may not stand after these fonts
abbrev pub line_cause : List FontModel → List ℕ → Option LineCause
line_cause fonts line = named_cause (body_word line) fonts line

-- ---- the line `end`

-- the first reason why there is no sign with this face
abbrev pub table_cause : Description → Option SignCause
table_cause it =
    option_or (communities_cause it.config.reader it.config.writer)
    (option_or (counts_cause (length it.table.permanent) (length it.table.changeable) (length it.table.volatile))
    (rows_cause it.table.services it.config.face 1 it.table.permanent))

abbrev pub face_then : Description → Result FaceModel FaceFault → Option SignCause
face_then it (Ok face) = table_cause it
face_then it (Err fault) = face_cause it.config.face

-- the first reason why this is no sign that can be made
abbrev pub sign_cause : Description → Option SignCause
sign_cause it = face_then it (checked it.config.face)

-- a line stands after the last one
abbrev pub after_cause : List (List ℕ) → Option LineCause
after_cause [] = None
after_cause (line ∷ lines) = Some causes.AfterEnd

-- ---- the whole

-- the line that comes next ends no sign of these parts
abbrev pub stop_cause : HeadModel → List RowModel → List FontModel → List (List ℕ) → Option LineCause
stop_cause head rows fonts [] = Some causes.NoEnd
stop_cause head rows fonts (line ∷ lines) =
    if same_octets line (codes "end")
    then option_or (option_map causes.Sign (sign_cause (described head rows fonts))) (after_cause lines)
    else line_cause fonts line

abbrev pub after_fonts_cause : HeadModel → List RowModel → List FontModel × List (List ℕ) → Option LineCause
after_fonts_cause head rows fonts = stop_cause head rows fonts.0 fonts.1

abbrev pub rows_then_cause : HeadModel → List RowModel × List (List ℕ) → Option LineCause
rows_then_cause head rows = after_fonts_cause head rows.0 (fonts_at rows.1)

abbrev pub body_cause : Option (HeadModel × List (List ℕ)) → Option LineCause
body_cause None = None
body_cause (Some head) = rows_then_cause head.0 (rows_from [] head.1)

-- the first cause for which these lines are no sign's
unfoldable pub first_cause : List (List ℕ) → Option LineCause
first_cause lines = option_or (head_cause head_words lines) (body_cause (head_at lines))
