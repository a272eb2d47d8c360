-- A font is what its text spells.
use Rattle.std.proofs.Common.{◌≡◌, ℕ, ◌<◌, ◌≤◌, ◌==◌, ◌&&◌, ◌||◌, Bool, true, false, cond, not, List, [], ◌∷◌, ◌++◌, length, Option, Some, None, Result, Ok, Err, refl, sym, ap, subst, ◌∙◌, arith, append_assoc, length-append}
use Rattle.std.specs.Prelude.{codes, nat_le}
use Rattle.std.specs.List.{list_any}
use Rattle.std.proofs.lemmas.Bool.{and_parts, and_from, leb-false, lt-leb, not-true, or_parts}
use Rattle.std.proofs.lemmas.Option.{cond_some, same_Some}
use Rattle.std.proofs.lemmas.List.{append-nil}
use Rattle.std.proofs.lemmas.List.Folds.{list_any-append}
use Rattle.std.specs.Str.Lines.{lines}
use Rattle.dms_text.specs.Lines.{NumberedLine, lines_left}
use Rattle.dms_text.specs.Words.{words_of}
use Rattle.dms_text.specs.Reading.{is_end}
use Rattle.dms_text.specs.Numbers.{SpellsDecimal, SpellsVersion}
use Rattle.dms_text.specs.Octets.{SpellsOctets}
use Rattle.dms_face_font.specs.Glyph.{GlyphModel, glyph_from}
use Rattle.dms_face_font.specs.Font.{FontModel, has_glyph, are_distinct}
use Rattle.dms_face_font.specs.FontText.{SpellsHeader, SpellsGlyph, SpellsGlyphs, SpellsFont}
use Rattle.dms_face_font.specs.FontReading.{labelled_at, version_at, header_of, GlyphWords, glyph_words, are_enough, bitmap_of, bitmap_or, glyph_with, glyph_said, glyph_read, with_glyph, glyph_added, added_then, glyphs_added, font_with, font_of_lines, font_read, whole, fault}
use Rattle.dms_face_font.specs.declared.fault.FontFaultKind.{FontFaultKind}
use Rattle.dms_face_font.specs.declared.fault.FontFaultKind.TheVariants.{Header, Glyph, Bitmap, Twice, TooMany}
use Rattle.dms_face_font.specs.declared.fault.FontFault.{FontFault}
use Rattle.dms_text.proofs.WordLaws.{begun, begun_as, goes_on, word_found, word_only, keyword_found, keyword_only, decimal_found, decimal_only, octets_found, octets_only, octets_some}
use Rattle.dms_text.proofs.NumberLaws.{version_found, version_only}
use Rattle.dms_face_font.proofs.RowLaws.{rows_found, rows_only}
use Rattle.dms_text.proofs.LineFilter.{octets_of_lines, octets-numbered}

-- ---- the first line

record FoundLabelled (label : List ℕ) (low high : ℕ) (words : List (List ℕ)) (found : ℕ × List (List ℕ)) : Type 0 where
  word : List ℕ
  words_are : words ≡ label ∷ word ∷ found.1
  spelled : SpellsDecimal low high found.0 word

labelled_found : (label : List ℕ) (low high : ℕ) (words : List (List ℕ)) (found : ℕ × List (List ℕ)) → labelled_at label low high words ≡ Some found → FoundLabelled label low high words found
unfolding labelled_at
labelled_found label low high words found e =
    let read = begun_as _ _ _ (keyword_found label words) e in
    let number = decimal_found low high read.0 found read.2 in
    record { word = number.word; words_are = read.1 ∙ ap (λ rest. label ∷ rest) number.words_are; spelled = number.spelled }

labelled_only : (label : List ℕ) (low high number : ℕ) (word : List ℕ) (rest : List (List ℕ)) → 0 < length label → SpellsDecimal low high number word
    → labelled_at label low high (label ∷ word ∷ rest) ≡ Some (number, rest)
unfolding labelled_at
labelled_only label low high number word rest some spelled = grind (arith, goes_on, keyword_only, decimal_only)

pub ended : (words : List (List ℕ)) → is_end words ≡ true → words ≡ []
ended words e = grind arith

-- what follows where a test holds
tested : {A : Type 0} (b : Bool) (o : Option A) (y : A) → cond b o None ≡ Some y → (b ≡ true) × (o ≡ Some y)
tested b o y e = grind arith

record FoundVersion (words : List (List ℕ)) (number : ℕ) : Type 0 where
  word : List ℕ
  words_are : words ≡ codes "version" ∷ word ∷ []
  spelled : SpellsVersion number word

last_version_found : (words : List (List ℕ)) (number : ℕ) → version_at words ≡ Some number → FoundVersion words number
unfolding version_at
last_version_found words number e = grind (arith, begun, tested, keyword_found, word_found, ended, version_found)

last_version_only : (number : ℕ) (word : List ℕ) → SpellsVersion number word → version_at (codes "version" ∷ word ∷ []) ≡ Some number
unfolding version_at
last_version_only number word spelled = grind (arith, goes_on, keyword_only, word_only, version_only)

pub header_found : (words : List (List ℕ)) (font : FontModel) → header_of words ≡ Some font → SpellsHeader font words × (font.glyphs ≡ [])
unfolding header_of
header_found words font e =
    let number = begun_as _ _ _ (labelled_found (codes "font") 1 255 words) e in
    let height = begun_as _ _ _ (labelled_found (codes "height") 1 32 number.0.1) number.2 in
    let character = begun_as _ _ _ (labelled_found (codes "space") 0 32 height.0.1) height.2 in
    let line = begun_as _ _ _ (labelled_found (codes "line") 0 32 character.0.1) character.2 in
    let version = begun_as _ _ _ (last_version_found line.0.1) line.2 in
    subst (λ (read : FontModel). SpellsHeader read words × (read.glyphs ≡ [])) (same_Some _ _ version.2) (
      record {
        number_word = number.1.word;
        height_word = height.1.word;
        character_word = character.1.word;
        line_word = line.1.word;
        version_word = version.1.word;
        words_are = number.1.words_are
            ∙ ap (λ rest. codes "font" ∷ number.1.word ∷ rest) (height.1.words_are
            ∙ ap (λ rest. codes "height" ∷ height.1.word ∷ rest) (character.1.words_are
            ∙ ap (λ rest. codes "space" ∷ character.1.word ∷ rest) (line.1.words_are
            ∙ ap (λ rest. codes "line" ∷ line.1.word ∷ rest) version.1.words_are)));
        number = number.1.spelled;
        height = height.1.spelled;
        character_spacing = character.1.spelled;
        line_spacing = line.1.spelled;
        version = version.1.spelled;
      },
      refl,
    )

pub header_only : (words : List (List ℕ)) (font : FontModel) → SpellsHeader font words → header_of words ≡ Some (record font { glyphs = [] })
unfolding header_of
header_only words font spelled = grind (arith, goes_on, labelled_only, last_version_only)

-- ---- a character's line

record FoundWords (words : List (List ℕ)) (found : GlyphWords) : Type 0 where
  character_word : List ℕ
  width_word : List ℕ
  words_are : words ≡ codes "glyph" ∷ character_word ∷ width_word ∷ found.bits ∷ []
  character : SpellsDecimal 1 65535 found.character character_word
  width : SpellsDecimal 1 32 found.width width_word

words_found : (words : List (List ℕ)) (found : GlyphWords) → glyph_words words ≡ Some found → FoundWords words found
unfolding glyph_words
words_found words found e =
    let read = begun_as _ _ _ (keyword_found (codes "glyph") words) e in
    let character = begun_as _ _ _ (decimal_found 1 65535 read.0) read.2 in
    let width = begun_as _ _ _ (decimal_found 1 32 character.0.1) character.2 in
    let bits = begun_as _ _ _ (word_found width.0.1) width.2 in
    let tests = cond_some _ _ _ bits.2 in
    subst (λ (line : GlyphWords). FoundWords words line) tests.1 (record {
      character_word = character.1.word;
      width_word = width.1.word;
      words_are = read.1
          ∙ ap (λ rest. codes "glyph" ∷ rest) (character.1.words_are
          ∙ ap (λ rest. character.1.word ∷ rest) (width.1.words_are
          ∙ ap (λ rest. width.1.word ∷ rest) (bits.1.0 ∙ ap (λ rest. bits.0.0 ∷ rest) (ended bits.0.1 tests.0))));
      character = character.1.spelled;
      width = width.1.spelled;
    })

bitmap_found : (width height : ℕ) (word octets : List ℕ) → bitmap_of width height word ≡ Some octets → SpellsOctets octets word × (are_enough width height octets ≡ true)
unfolding bitmap_of
bitmap_found width height word octets e = grind (arith, begun, cond_some, octets_found)

bitmap_only : (width height : ℕ) (word octets : List ℕ) → SpellsOctets octets word → are_enough width height octets ≡ true → bitmap_of width height word ≡ Some octets
unfolding bitmap_of
bitmap_only width height word octets spelled enough = grind (arith, goes_on, octets_only)

with_found : (height : ℕ) (words : List (List ℕ)) (found : GlyphWords) (bitmap : Option (List ℕ)) (glyph : GlyphModel) → FoundWords words found
    → bitmap_of found.width height found.bits ≡ bitmap → glyph_with found height (bitmap_or bitmap) ≡ Ok glyph → SpellsGlyph height glyph words
with_found height words found None glyph line is e = absurd (let wrong : Err Bitmap ≡ Ok glyph = e in cc)
with_found height words found (Some octets) glyph line is e =
    let bits = bitmap_found found.width height found.bits octets is in
    let same : glyph_from found.character found.width height octets ≡ glyph = cc in
    subst (λ (read : GlyphModel). SpellsGlyph height read words) same (record {
      character_word = line.character_word;
      width_word = line.width_word;
      bits_word = found.bits;
      octets = octets;
      words_are = line.words_are;
      character = line.character;
      width = line.width;
      bits = bits.0;
      rows = rows_found found.width height octets bits.1;
    })

said_found : (height : ℕ) (words : List (List ℕ)) (said : Option GlyphWords) (glyph : GlyphModel) → glyph_words words ≡ said → glyph_said height said ≡ Ok glyph → SpellsGlyph height glyph words
said_found height words None glyph is e = absurd (let wrong : Err Glyph ≡ Ok glyph = e in cc)
said_found height words (Some found) glyph is e = with_found height words found (bitmap_of found.width height found.bits) glyph (words_found words found is) refl e

glyph_found : (height : ℕ) (line : List ℕ) (glyph : GlyphModel) → glyph_read height line ≡ Ok glyph → SpellsGlyph height glyph (words_of line)
unfolding glyph_read
glyph_found height line glyph e = said_found height (words_of line) (glyph_words (words_of line)) glyph refl e

words_only : (character width : ℕ) (character_word width_word bits_word : List ℕ) → SpellsDecimal 1 65535 character character_word → SpellsDecimal 1 32 width width_word
    → 0 < length bits_word → glyph_words (codes "glyph" ∷ character_word ∷ width_word ∷ bits_word ∷ []) ≡ Some (record { character = character; width = width; bits = bits_word })
unfolding glyph_words
words_only character width character_word width_word bits_word at_character at_width some = grind (arith, goes_on, keyword_only, decimal_only, word_only)

glyph_only : (height : ℕ) (line : List ℕ) (glyph : GlyphModel) → SpellsGlyph height glyph (words_of line) → glyph_read height line ≡ Ok glyph
unfolding glyph_read
glyph_only height line glyph spelled =
    let rows = rows_only glyph.width height glyph.rows spelled.octets spelled.rows in
    ap (λ words. glyph_said height (glyph_words words)) spelled.words_are
    ∙ ap (glyph_said height) (words_only glyph.character glyph.width spelled.character_word spelled.width_word spelled.bits_word spelled.character spelled.width (octets_some spelled.octets spelled.bits_word spelled.bits))
    ∙ ap (λ bitmap. glyph_with (record { character = glyph.character; width = glyph.width; bits = spelled.bits_word }) height (bitmap_or bitmap)) (bitmap_only glyph.width height spelled.bits_word spelled.octets spelled.bits rows.0)
    ∙ ap (λ (picture : List (List Bool)). Ok (record { character = glyph.character; width = glyph.width; rows = picture })) (sym rows.1)

-- ---- each character once

either_way : (p q d h : Bool) → (not (p || (q || false)) && (d && not h)) ≡ ((not p && d) && not (q || h))
either_way p q d h = grind arith

eqb_comm : (a b : ℕ) → (a == b) ≡ (b == a)
eqb_comm a b = grind arith

-- a character more
pub distinct_push : (glyphs : List GlyphModel) (glyph : GlyphModel) → are_distinct (glyphs ++ glyph ∷ []) ≡ (are_distinct glyphs && not (has_glyph glyphs glyph.character))
distinct_push [] glyph = refl
distinct_push (first ∷ glyphs) glyph = grind (arith, list_any-append, eqb_comm, either_way, distinct_push glyphs glyph)

front_lacks : (p : GlyphModel → Bool) (xs ys : List GlyphModel) → list_any p (xs ++ ys) ≡ false → list_any p xs ≡ false
front_lacks p [] ys e = refl
front_lacks p (x ∷ xs) ys e =
    let parts = or_parts (p x) (list_any p (xs ++ ys)) e in
    ap (λ b. b || list_any p xs) parts.0 ∙ front_lacks p xs ys parts.1

-- the front of distinct characters
distinct_front : (xs ys : List GlyphModel) → are_distinct (xs ++ ys) ≡ true → are_distinct xs ≡ true
distinct_front [] ys e = refl
distinct_front (x ∷ xs) ys e =
    let parts = and_parts _ _ e in
    and_from _ _ (ap not (front_lacks (λ (g : GlyphModel). g.character == x.character) xs ys (not-true _ parts.0))) (distinct_front xs ys parts.1)

-- ---- one more line

pub record OneMore (font : FontModel) (line : List ℕ) (longer : FontModel) : Type 0 where
  pub glyph : GlyphModel
  pub spelled : SpellsGlyph font.height glyph (words_of line)
  pub new : has_glyph font.glyphs glyph.character ≡ false
  pub few : length font.glyphs < 255
  pub longer_is : record font { glyphs = font.glyphs ++ glyph ∷ [] } ≡ longer

more_with : (font : FontModel) (line : List ℕ) (read : Result GlyphModel FontFaultKind) (longer : FontModel) → glyph_read font.height line ≡ read → with_glyph font read ≡ Ok longer → OneMore font line longer
more_with font line read longer is e = grind (arith, glyph_found, leb-false)

pub added_found : (font : FontModel) (line : List ℕ) (longer : FontModel) → glyph_added font line ≡ Ok longer → OneMore font line longer
unfolding glyph_added
added_found font line longer e = more_with font line (glyph_read font.height line) longer refl e

pub added_only : (font : FontModel) (line : List ℕ) (glyph : GlyphModel) → SpellsGlyph font.height glyph (words_of line) → has_glyph font.glyphs glyph.character ≡ false
    → length font.glyphs < 255 → glyph_added font line ≡ Ok (record font { glyphs = font.glyphs ++ glyph ∷ [] })
unfolding glyph_added
added_only font line glyph spelled new few =
    let room : nat_le 255 (length font.glyphs) ≡ false = lt-leb _ _ few in
    ap (with_glyph font) (glyph_only font.height line glyph spelled)
    ∙ ap (λ b. cond b (Err Twice) (cond (nat_le 255 (length font.glyphs)) (Err TooMany) (Ok (record font { glyphs = font.glyphs ++ glyph ∷ [] })))) new
    ∙ ap (λ b. cond b (Err TooMany) (Ok (record font { glyphs = font.glyphs ++ glyph ∷ [] }))) room

-- ---- all lines

pub record AllAdded (font : FontModel) (lines : List NumberedLine) (full : FontModel) : Type 0 where
  pub glyphs : List GlyphModel
  pub full_is : record font { glyphs = font.glyphs ++ glyphs } ≡ full
  pub spelled : SpellsGlyphs font.height glyphs (octets_of_lines lines)
  pub few : length font.glyphs ≤ 255 → length (font.glyphs ++ glyphs) ≤ 255
  pub distinct : are_distinct font.glyphs ≡ true → are_distinct (font.glyphs ++ glyphs) ≡ true

then_found : (more : FontModel → Result FontModel FontFault) (number : ℕ) (read : Result FontModel FontFaultKind) (full : FontModel) → added_then more number read ≡ Ok full
    → (longer : FontModel) × (read ≡ Ok longer) × (more longer ≡ Ok full)
then_found more number read full e = grind arith

pub glyphs_found : (lines : List NumberedLine) (font full : FontModel) → glyphs_added font lines ≡ Ok full → AllAdded font lines full
unfolding glyphs_added
glyphs_found [] font full e = grind (arith, append-nil, then_found, added_found, append_assoc, length-append, distinct_push, and_from)
glyphs_found (line ∷ lines) font full e =
    let step = then_found (λ longer. glyphs_added longer lines) line.number (glyph_added font line.octets) full e in
    let one = added_found font line.octets step.0 step.1 in
    let rest : AllAdded (record font { glyphs = font.glyphs ++ one.glyph ∷ [] }) lines full =
    subst (λ (longer : FontModel). AllAdded longer lines full) (sym one.longer_is) (glyphs_found lines step.0 full step.2) in
    let together : (font.glyphs ++ one.glyph ∷ []) ++ rest.glyphs ≡ font.glyphs ++ (one.glyph ∷ rest.glyphs) = append_assoc font.glyphs (one.glyph ∷ []) rest.glyphs in
    record {
      glyphs = one.glyph ∷ rest.glyphs;
      full_is = ap (λ glyphs. record font { glyphs = glyphs }) (sym together) ∙ rest.full_is;
      spelled = (one.spelled, rest.spelled);
      few = λ few. omega (arith, ap length together, rest.few (let small = one.few in omega (arith, length-append font.glyphs (one.glyph ∷ []))));
      distinct = λ distinct. ap are_distinct (sym together) ∙ rest.distinct (distinct_push font.glyphs one.glyph ∙ and_from _ _ distinct (ap not one.new));
    }

pub glyphs_only : (lines : List NumberedLine) (font : FontModel) (glyphs : List GlyphModel) → SpellsGlyphs font.height glyphs (octets_of_lines lines)
    → are_distinct (font.glyphs ++ glyphs) ≡ true → length (font.glyphs ++ glyphs) ≤ 255 → glyphs_added font lines ≡ Ok (record font { glyphs = font.glyphs ++ glyphs })
unfolding glyphs_added
glyphs_only [] font [] spelled distinct few = ap (λ glyphs. Ok (record font { glyphs = glyphs })) (sym (append-nil font.glyphs))
glyphs_only [] font (glyph ∷ glyphs) spelled distinct few = absurd spelled
glyphs_only (line ∷ lines) font [] spelled distinct few = absurd (let some : line.octets ∷ octets_of_lines lines ≡ [] = spelled in cc)
glyphs_only (line ∷ lines) font (glyph ∷ glyphs) spelled distinct few =
    let together : (font.glyphs ++ glyph ∷ []) ++ glyphs ≡ font.glyphs ++ (glyph ∷ glyphs) = append_assoc font.glyphs (glyph ∷ []) glyphs in
    let front = distinct_front (font.glyphs ++ glyph ∷ []) glyphs (ap are_distinct together ∙ distinct) in
    let both : (are_distinct font.glyphs && not (has_glyph font.glyphs glyph.character)) ≡ true = sym (distinct_push font.glyphs glyph) ∙ front in
    let new : has_glyph font.glyphs glyph.character ≡ false =
    not-true (has_glyph font.glyphs glyph.character) ((and_parts (are_distinct font.glyphs) (not (has_glyph font.glyphs glyph.character)) both).1) in
    let small : length font.glyphs < 255 = omega (arith, length-append font.glyphs (glyph ∷ glyphs)) in
    ap (added_then (λ longer. glyphs_added longer lines) line.number) (added_only font line.octets glyph spelled.0 new small)
    ∙ glyphs_only lines (record font { glyphs = font.glyphs ++ glyph ∷ [] }) glyphs spelled.1 (ap are_distinct together ∙ distinct) (omega (arith, ap length together))
    ∙ ap (λ glyphs. Ok (record font { glyphs = glyphs })) together

-- ---- the whole text

-- the header says nothing of the characters
pub same_header : (font : FontModel) (glyphs : List GlyphModel) (words : List (List ℕ)) → SpellsHeader font words → SpellsHeader (record font { glyphs = glyphs }) words
same_header font glyphs words spelled = grind arith

font_found_with : (text : List ℕ) (first : NumberedLine) (more : List NumberedLine) (header : Option FontModel) (font : FontModel) → lines_left (whole text) ≡ first ∷ more
    → header_of (words_of first.octets) ≡ header → font_with first.number more header ≡ Ok font → SpellsFont text font
font_found_with text first more None font are is e = absurd (let wrong : Err (fault Header first.number) ≡ Ok font = e in cc)
font_found_with text first more (Some begun) font are is e =
    let header = header_found (words_of first.octets) begun is in
    let added = glyphs_found more begun font e in
    let glyphs : begun.glyphs ++ added.glyphs ≡ added.glyphs = ap (λ gs. gs ++ added.glyphs) header.1 in
    subst (λ (full : FontModel). SpellsFont text full) (ap (λ glyphs. record begun { glyphs = glyphs }) (sym glyphs) ∙ added.full_is) (record {
      header_line = first.octets;
      glyph_lines = octets_of_lines more;
      lines_are = sym (octets-numbered 1 (lines text)) ∙ ap octets_of_lines are;
      header = same_header begun added.glyphs (words_of first.octets) header.0;
      glyphs = added.spelled;
      few = omega (arith, ap length glyphs, added.few (omega (arith, ap length header.1)));
      distinct = ap are_distinct (sym glyphs) ∙ added.distinct (ap are_distinct header.1);
    })

font_found_in : (text : List ℕ) (missing : ℕ) (all : List NumberedLine) (font : FontModel) → lines_left (whole text) ≡ all → font_of_lines missing all ≡ Ok font → SpellsFont text font
font_found_in text missing all font are e = grind (arith, font_found_with)

pub font_found : (text : List ℕ) (font : FontModel) → font_read text ≡ Ok font → SpellsFont text font
unfolding font_read
font_found text font e = font_found_in text _ (lines_left (whole text)) font refl e

font_only_in : (text : List ℕ) (missing : ℕ) (all : List NumberedLine) (font : FontModel) (spelled : SpellsFont text font) → octets_of_lines all ≡ spelled.header_line ∷ spelled.glyph_lines
    → font_of_lines missing all ≡ Ok font
font_only_in text missing [] font spelled are = absurd (let some : [] ≡ spelled.header_line ∷ spelled.glyph_lines = are in cc)
font_only_in text missing (first ∷ more) font spelled are =
    let split : first.octets ∷ octets_of_lines more ≡ spelled.header_line ∷ spelled.glyph_lines = are in
    let header : first.octets ≡ spelled.header_line = cc in
    let glyphs : octets_of_lines more ≡ spelled.glyph_lines = cc in
    ap (λ line. font_with first.number more (header_of (words_of line))) header
    ∙ ap (font_with first.number more) (header_only (words_of spelled.header_line) font spelled.header)
    ∙ glyphs_only more (record font { glyphs = [] }) font.glyphs (subst (SpellsGlyphs font.height font.glyphs) (sym glyphs) spelled.glyphs) spelled.distinct spelled.few

pub font_only : (text : List ℕ) (font : FontModel) → SpellsFont text font → font_read text ≡ Ok font
unfolding font_read
font_only text font spelled = font_only_in text _ (lines_left (whole text)) font spelled (octets-numbered 1 (lines text) ∙ spelled.lines_are)
