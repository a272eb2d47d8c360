-- What the lines of fonts spell is what is read of them.
use Rattle.std.proofs.Common.{◌≡◌, ℕ, List, [], ◌∷◌, ◌++◌, map, length, Option, Some, None, Result, Ok, Err, refl, sym, ap, subst, ◌∙◌, arith, append_assoc, ◌⊎◌, inl}
use Rattle.std.specs.Prelude.{codes}
use Rattle.dms_text.specs.Words.{words_of}
use Rattle.dms_text.specs.Lines.{NumberedLine}
use Rattle.dms_text.specs.Reading.{word_at, keyword_at}
use Rattle.dms_text.proofs.LineFilter.{octets_of_lines}
use Rattle.dms_face_font.specs.Font.{FontModel, are_distinct}
use Rattle.dms_face_font.specs.FontText.{SpellsHeader, SpellsGlyphs, SpellsFontLines}
use Rattle.dms_face_font.specs.FontReading.{labelled_at, header_of, glyph_words, glyph_said, glyph_read, with_glyph, glyph_added, added_then, glyphs_added}
use Rattle.dms_face_font.specs.declared.fault.FontFaultKind.{FontFaultKind}
use Rattle.dms_face_font.specs.declared.fault.FontFaultKind.TheVariants.{Glyph}
use Rattle.dms_face_font.proofs.FontLaws.{same_header, header_found, header_only, glyphs_found, glyphs_only}
use Rattle.dms_sign_text.specs.Description.{SpellsFonts, no_font, one_more}
use Rattle.dms_sign_text.specs.DescriptionReading.{fonts_then, fonts_from, fonts_after, fonts_at}

-- ---- the lines of one font

-- lines whose numbers do not matter
abbrev unnumbered : List (List ℕ) → List NumberedLine
unnumbered lines = map (λ (line : List ℕ). record { number = 0; octets = line }) lines

same_lines : (lines : List (List ℕ)) → octets_of_lines (unnumbered lines) ≡ lines
same_lines [] = refl
same_lines (line ∷ lines) = ap (λ others. line ∷ others) (same_lines lines)

font_found : (line : List ℕ) (own : List (List ℕ)) (begun full : FontModel) → header_of (words_of line) ≡ Some begun → glyphs_added begun (unnumbered own) ≡ Ok full
    → SpellsFontLines (line ∷ own) full
font_found line own begun full is e =
    let header = header_found (words_of line) begun is in
    let added = glyphs_found (unnumbered own) begun full e in
    let glyphs : begun.glyphs ++ added.glyphs ≡ added.glyphs = ap (λ gs. gs ++ added.glyphs) header.1 in
    subst (λ (f : FontModel). SpellsFontLines (line ∷ own) f) (ap (λ gs. record begun { glyphs = gs }) (sym glyphs) ∙ added.full_is) (record {
      header_line = line;
      glyph_lines = own;
      lines_are = refl;
      header = same_header begun added.glyphs (words_of line) header.0;
      glyphs = subst (SpellsGlyphs begun.height added.glyphs) (same_lines own) added.spelled;
      few = omega (arith, ap length glyphs, added.few (omega (arith, ap length header.1)));
      distinct = ap are_distinct (sym glyphs) ∙ added.distinct (ap are_distinct header.1);
    })

-- ---- read, and so spelled

-- the fonts of the first lines, the first of them begun before
pub record FoundFonts (fonts : List FontModel) (font : FontModel) (lines : List (List ℕ)) : Type 0 where
  pub full : FontModel
  pub more : List FontModel
  pub own : List (List ℕ)
  pub others : List (List ℕ)
  pub fonts_are : (fonts_from fonts font lines).0 ≡ fonts ++ full ∷ more
  pub lines_are : lines ≡ own ++ (others ++ (fonts_from fonts font lines).1)
  pub grown : glyphs_added font (unnumbered own) ≡ Ok full
  pub spelled : SpellsFonts more others

no_more : (fonts : List FontModel) (font : FontModel) (lines : List (List ℕ)) → fonts_from fonts font lines ≡ (fonts ++ font ∷ [], lines) → FoundFonts fonts font lines
unfolding glyphs_added
no_more fonts font lines e = record {
  full = font;
  more = [];
  own = [];
  others = [];
  fonts_are = ap (λ (found : List FontModel × List (List ℕ)). found.0) e;
  lines_are = sym (ap (λ (found : List FontModel × List (List ℕ)). found.1) e);
  grown = refl;
  spelled = no_font;
}

one_glyph_more : (fonts : List FontModel) (font longer : FontModel) (line : List ℕ) (lines : List (List ℕ)) → glyph_added font line ≡ Ok longer
    → fonts_from fonts font (line ∷ lines) ≡ fonts_from fonts longer lines → FoundFonts fonts longer lines → FoundFonts fonts font (line ∷ lines)
unfolding glyphs_added
one_glyph_more fonts font longer line lines added e found = record {
  full = found.full;
  more = found.more;
  own = line ∷ found.own;
  others = found.others;
  fonts_are = ap (λ (all : List FontModel × List (List ℕ)). all.0) e ∙ found.fonts_are;
  lines_are = ap (λ rest. line ∷ rest) found.lines_are ∙ ap (λ (all : List FontModel × List (List ℕ)). line ∷ (found.own ++ (found.others ++ all.1))) (sym e);
  grown = ap (added_then (λ grown. glyphs_added grown (unnumbered found.own)) 0) added ∙ found.grown;
  spelled = found.spelled;
}

one_font_more : (fonts : List FontModel) (font next : FontModel) (line : List ℕ) (lines : List (List ℕ)) → header_of (words_of line) ≡ Some next
    → fonts_from fonts font (line ∷ lines) ≡ fonts_from (fonts ++ font ∷ []) next lines → FoundFonts (fonts ++ font ∷ []) next lines → FoundFonts fonts font (line ∷ lines)
unfolding glyphs_added
one_font_more fonts font next line lines header e found = record {
  full = font;
  more = found.full ∷ found.more;
  own = [];
  others = (line ∷ found.own) ++ found.others;
  fonts_are = ap (λ (all : List FontModel × List (List ℕ)). all.0) e ∙ found.fonts_are ∙ append_assoc fonts (font ∷ []) (found.full ∷ found.more);
  lines_are = ap (λ rest. line ∷ rest) (found.lines_are ∙ sym (append_assoc found.own found.others _))
      ∙ ap (λ (all : List FontModel × List (List ℕ)). line ∷ ((found.own ++ found.others) ++ all.1)) (sym e);
  grown = refl;
  spelled = one_more found.full found.more (line ∷ found.own) found.others (font_found line found.own next found.full header found.grown) found.spelled;
}

pub fonts_found : (lines : List (List ℕ)) (fonts : List FontModel) (font : FontModel) → FoundFonts fonts font lines
unfolding fonts_from
fonts_found [] fonts font = no_more fonts font [] refl
fonts_found (line ∷ lines) fonts font = by_line (λ closed open_font. fonts_found lines closed open_font) (glyph_added font line) (header_of (words_of line)) refl refl
  where
    by_line : ((closed : List FontModel) (open_font : FontModel) → FoundFonts closed open_font lines) → (added : Result FontModel FontFaultKind) (header : Option FontModel)
        → glyph_added font line ≡ added → header_of (words_of line) ≡ header → FoundFonts fonts font (line ∷ lines)
    by_line more (Ok longer) header is begins =
        one_glyph_more fonts font longer line lines is (ap (λ added. fonts_then (λ closed open_font. fonts_from closed open_font lines) fonts font (line ∷ lines) added (header_of (words_of line))) is) (more fonts longer)
    by_line more (Err kind) (Some next) is begins =
        one_font_more fonts font next line lines begins
        (ap (λ added. fonts_then (λ closed open_font. fonts_from closed open_font lines) fonts font (line ∷ lines) added (header_of (words_of line))) is
        ∙ ap (fonts_then (λ closed open_font. fonts_from closed open_font lines) fonts font (line ∷ lines) (Err kind)) begins)
        (more (fonts ++ font ∷ []) next)
    by_line more (Err kind) None is begins =
        no_more fonts font (line ∷ lines)
        (ap (λ added. fonts_then (λ closed open_font. fonts_from closed open_font lines) fonts font (line ∷ lines) added (header_of (words_of line))) is
        ∙ ap (fonts_then (λ closed open_font. fonts_from closed open_font lines) fonts font (line ∷ lines) (Err kind)) begins)

-- all fonts of the first lines
pub record FoundAll (lines : List (List ℕ)) : Type 0 where
  pub prefix : List (List ℕ)
  pub lines_are : lines ≡ prefix ++ (fonts_at lines).1
  pub spelled : SpellsFonts (fonts_at lines).0 prefix

none_at : (lines : List (List ℕ)) → fonts_at lines ≡ ([], lines) → FoundAll lines
none_at lines e = record {
  prefix = [];
  lines_are = sym (ap (λ (found : List FontModel × List (List ℕ)). found.1) e);
  spelled = subst (λ (fonts : List FontModel). SpellsFonts fonts []) (sym (ap (λ (found : List FontModel × List (List ℕ)). found.0) e)) no_font;
}

some_at : (line : List ℕ) (lines : List (List ℕ)) (font : FontModel) → header_of (words_of line) ≡ Some font → fonts_at (line ∷ lines) ≡ fonts_from [] font lines
    → FoundFonts [] font lines → FoundAll (line ∷ lines)
some_at line lines font header e found = record {
  prefix = (line ∷ found.own) ++ found.others;
  lines_are = ap (λ rest. line ∷ rest) (found.lines_are ∙ sym (append_assoc found.own found.others _))
      ∙ ap (λ (all : List FontModel × List (List ℕ)). line ∷ ((found.own ++ found.others) ++ all.1)) (sym e);
  spelled = subst (λ (fonts : List FontModel). SpellsFonts fonts ((line ∷ found.own) ++ found.others)) (sym (ap (λ (all : List FontModel × List (List ℕ)). all.0) e ∙ found.fonts_are))
      (one_more found.full found.more (line ∷ found.own) found.others (font_found line found.own font found.full header found.grown) found.spelled);
}

pub all_found : (lines : List (List ℕ)) → FoundAll lines
unfolding fonts_at
all_found [] = none_at [] refl
all_found (line ∷ lines) = by_header (header_of (words_of line)) refl
  where
    by_header : (header : Option FontModel) → header_of (words_of line) ≡ header → FoundAll (line ∷ lines)
    by_header None is = none_at (line ∷ lines) (ap (fonts_after (line ∷ lines) lines) is)
    by_header (Some font) is = some_at line lines font is (ap (fonts_after (line ∷ lines) lines) is) (fonts_found lines [] font)

-- ---- spelled, and so read

-- a line that begins with another word is no character
no_glyph : (font : FontModel) (line : List ℕ) → glyph_words (words_of line) ≡ None → glyph_added font line ≡ Err Glyph
unfolding glyph_added glyph_read
no_glyph font line e = ap (λ said. with_glyph font (glyph_said font.height said)) e

header_words : (font : FontModel) (words : List (List ℕ)) → SpellsHeader font words → glyph_words words ≡ None
unfolding glyph_words keyword_at word_at
header_words font words spelled = ap glyph_words spelled.words_are

end_words : glyph_words (words_of (codes "end")) ≡ None
unfolding glyph_words keyword_at word_at
end_words = refl

end_header : header_of (words_of (codes "end")) ≡ None
unfolding header_of labelled_at keyword_at word_at
end_header = refl

-- the characters of the open font
own_read : (own : List (List ℕ)) (fonts : List FontModel) (font full : FontModel) (after : List (List ℕ)) → glyphs_added font (unnumbered own) ≡ Ok full
    → fonts_from fonts font (own ++ after) ≡ fonts_from fonts full after
unfolding glyphs_added fonts_from
own_read [] fonts font full after e = let same : font ≡ full = cc in ap (λ (f : FontModel). fonts_from fonts f after) same
own_read (line ∷ own) fonts font full after e = by_line (λ longer more. own_read own fonts longer full after more) (glyph_added font line) refl
  where
    by_line : ((longer : FontModel) → glyphs_added longer (unnumbered own) ≡ Ok full → fonts_from fonts longer (own ++ after) ≡ fonts_from fonts full after)
        → (added : Result FontModel FontFaultKind) → glyph_added font line ≡ added → fonts_from fonts font (line ∷ (own ++ after)) ≡ fonts_from fonts full after
    by_line more (Ok longer) is =
        ap (λ added. fonts_then (λ closed open_font. fonts_from closed open_font (own ++ after)) fonts font (line ∷ (own ++ after)) added (header_of (words_of line))) is
        ∙ more longer (sym (ap (added_then (λ grown. glyphs_added grown (unnumbered own)) 0) is) ∙ e)
    by_line more (Err kind) is = absurd (let wrong : added_then (λ grown. glyphs_added grown (unnumbered own)) 0 (Err kind) ≡ Ok full = sym (ap (added_then (λ grown. glyphs_added grown (unnumbered own)) 0) is) ∙ e in cc)

-- what a font's lines say
record FontRead (lines : List (List ℕ)) (font : FontModel) : Type 0 where
  line : List ℕ
  own : List (List ℕ)
  lines_are : lines ≡ line ∷ own
  header : header_of (words_of line) ≡ Some (record font { glyphs = [] })
  grown : glyphs_added (record font { glyphs = [] }) (unnumbered own) ≡ Ok font
  other : glyph_words (words_of line) ≡ None

font_only : (lines : List (List ℕ)) (font : FontModel) → SpellsFontLines lines font → FontRead lines font
font_only lines font spelled = record {
  line = spelled.header_line;
  own = spelled.glyph_lines;
  lines_are = spelled.lines_are;
  header = header_only (words_of spelled.header_line) font spelled.header;
  grown = glyphs_only (unnumbered spelled.glyph_lines) (record font { glyphs = [] }) font.glyphs
      (subst (SpellsGlyphs font.height font.glyphs) (sym (same_lines spelled.glyph_lines)) spelled.glyphs) spelled.distinct spelled.few;
  other = header_words font (words_of spelled.header_line) spelled.header;
}

-- the fonts after the open one, up to the line `end`
more_read : (more : List FontModel) (others rest : List (List ℕ)) (fonts : List FontModel) (font : FontModel) → SpellsFonts more others
    → fonts_from fonts font (others ++ codes "end" ∷ rest) ≡ (fonts ++ font ∷ more, codes "end" ∷ rest)
unfolding fonts_from
more_read _ _ rest fonts font no_font = grind (arith, no_glyph, end_words, end_header, font_only, append_assoc, own_read)
more_read _ _ rest fonts font (one_more next more lines others spelled after) =
    let read = font_only lines next spelled in
    let begun : FontModel = record next { glyphs = [] } in
    let tail : List (List ℕ) = others ++ codes "end" ∷ rest in
    ap (fonts_from fonts font) (append_assoc lines others (codes "end" ∷ rest) ∙ ap (λ ls. ls ++ tail) read.lines_are)
    ∙ ap (λ added. fonts_then (λ closed open_font. fonts_from closed open_font (read.own ++ tail)) fonts font (read.line ∷ (read.own ++ tail)) added (header_of (words_of read.line))) (no_glyph font read.line read.other)
    ∙ ap (fonts_then (λ closed open_font. fonts_from closed open_font (read.own ++ tail)) fonts font (read.line ∷ (read.own ++ tail)) (Err Glyph)) read.header
    ∙ own_read read.own (fonts ++ font ∷ []) begun next tail read.grown
    ∙ more_read more others rest (fonts ++ font ∷ []) next after
    ∙ ap (λ all. (all, codes "end" ∷ rest)) (append_assoc fonts (font ∷ []) (next ∷ more))

pub all_read : (fonts : List FontModel) (lines rest : List (List ℕ)) → SpellsFonts fonts lines → fonts_at (lines ++ codes "end" ∷ rest) ≡ (fonts, codes "end" ∷ rest)
unfolding fonts_at
all_read _ _ rest no_font = ap (fonts_after (codes "end" ∷ rest) rest) end_header
all_read _ _ rest (one_more font more lines others spelled after) =
    let read = font_only lines font spelled in
    let begun : FontModel = record font { glyphs = [] } in
    let tail : List (List ℕ) = others ++ codes "end" ∷ rest in
    ap fonts_at (append_assoc lines others (codes "end" ∷ rest) ∙ ap (λ ls. ls ++ tail) read.lines_are)
    ∙ ap (fonts_after (read.line ∷ (read.own ++ tail)) (read.own ++ tail)) read.header
    ∙ own_read read.own [] begun font tail read.grown
    ∙ more_read more others rest [] font after

-- the first line after permanent rows begins with another word
pub record OtherLine (lines : List (List ℕ)) : Type 0 where
  pub line : List ℕ
  pub rest : List (List ℕ)
  pub lines_are : lines ≡ line ∷ rest
  pub words : (line ≡ codes "end") ⊎ ((font : FontModel) × SpellsHeader font (words_of line))

pub other_line : (fonts : List FontModel) (lines rest : List (List ℕ)) → SpellsFonts fonts lines → OtherLine (lines ++ codes "end" ∷ rest)
other_line _ _ rest no_font = record { line = codes "end"; rest = rest; lines_are = refl; words = inl refl }
other_line _ _ rest (one_more font more lines others spelled after) = grind (arith, append_assoc)
