-- What the first lines of a text spell is what is read of them, and nothing else.
use Rattle.std.proofs.Common.{◌≡◌, ◌⊎◌, ℕ, ◌<◌, true, List, [], ◌∷◌, ◌++◌, length, Some, None, refl, sym, ap, subst, ◌∙◌, arith, inl, inr}
use Rattle.std.specs.Prelude.{codes}
use Rattle.std.proofs.lemmas.Option.{same_Some, cond_some}
use Rattle.std.proofs.lemmas.List.{append-nil, length-replicate}
use Rattle.dms_text.specs.Words.{words_of}
use Rattle.dms_text.specs.Reading.{word_at, keyword_at, ◌>>=◌}
use Rattle.dms_text.proofs.WordLaws.{begun, goes_on, same_found}
use Rattle.dms_face_font.specs.Font.{FontModel}
use Rattle.dms_face_font.specs.FontText.{SpellsHeader}
use Rattle.dms_table.specs.Rows.{RowModel}
use Rattle.dms_codes.specs.Limits.{has_community_size}
use Rattle.dms_sign.specs.Construction.{CanBeMade}
use Rattle.dms_text_forms.specs.Fields.{SpellsEach}
use Rattle.dms_sign_text.specs.Description.{Description, SpellsSign, SpellsPermanentLine, SpellsFonts}
use Rattle.dms_sign_text.specs.DescriptionReading.{row_words, row_of, rows_from, fonts_at, end_at, HeadModel, described, body_at, description_at}
use Rattle.dms_sign_text.specs.Setups.{BeginsWith}
use Rattle.dms_sign_text.proofs.HeadLaws.{size_found, size_only, communities_found, communities_only, rows_found, rows_only, order_line_found, order_line_only, services_found, services_only, first_found, first_only}
use Rattle.dms_sign_text.proofs.DefaultsLaws.{defaults_found, defaults_only}
use Rattle.dms_sign_text.proofs.FirstLines.{FoundHead, head_found, head_only}
use Rattle.dms_sign_text.proofs.RowReading as row
use Rattle.dms_sign_text.proofs.FontReading as font

-- ---- lists

joined : (permanent fonts : List (List ℕ)) (last : List ℕ) (rest : List (List ℕ)) → (permanent ++ fonts ++ last ∷ []) ++ rest ≡ permanent ++ (fonts ++ last ∷ rest)
joined [] [] last rest = refl
joined [] (line ∷ fonts) last rest = ap (λ lines. line ∷ lines) (joined [] fonts last rest)
joined (line ∷ permanent) fonts last rest = ap (λ lines. line ∷ lines) (joined permanent fonts last rest)

end_found : (lines rest : List (List ℕ)) → end_at lines ≡ Some rest → lines ≡ codes "end" ∷ rest
end_found [] rest e = absurd (let none : None ≡ Some rest = e in cc)
end_found (line ∷ lines) rest e =
    let tests = cond_some _ _ _ e in
    ap (λ first. first ∷ lines) (same_found line (codes "end") tests.0) ∙ ap (λ others. codes "end" ∷ others) tests.1

-- ---- read, and so spelled

counts_alike : (head : HeadModel) (permanent : List RowModel) (fonts : List FontModel)
    → head.beginning.rows ≡ record { changeable = length (described head permanent fonts).table.changeable; volatile = length (described head permanent fonts).table.volatile }
counts_alike head permanent fonts = grind (arith, length-replicate)

assembled : (lines after middle last rest : List (List ℕ)) (head : HeadModel) (permanent : List RowModel) (permanent_lines : List (List ℕ)) (fonts : List FontModel) (font_lines : List (List ℕ))
    → FoundHead lines (head, after) → after ≡ permanent_lines ++ middle → SpellsEach SpellsPermanentLine permanent permanent_lines → middle ≡ font_lines ++ last
    → SpellsFonts fonts font_lines → last ≡ codes "end" ∷ rest → CanBeMade (described head permanent fonts).config (described head permanent fonts).table
    → BeginsWith lines rest (described head permanent fonts)
assembled lines after middle last rest head permanent permanent_lines fonts font_lines found after_is rows middle_is spelled last_is can =
    let it : Description = described head permanent fonts in
    record {
      prefix = found.size_line ∷ found.communities_line ∷ found.rows_line ∷ found.order_line ∷ found.has_line ∷ found.defaults_line ∷ found.first_line
          ∷ permanent_lines ++ font_lines ++ codes "end" ∷ [];
      lines_are = found.lines_are
          ∙ ap (λ others. found.size_line ∷ found.communities_line ∷ found.rows_line ∷ found.order_line ∷ found.has_line ∷ found.defaults_line ∷ found.first_line ∷ others)
          (after_is ∙ ap (λ others. permanent_lines ++ others) (middle_is ∙ ap (λ others. font_lines ++ others) last_is) ∙ sym (joined permanent_lines font_lines (codes "end") rest));
      spelled = record {
        size_line = found.size_line;
        communities_line = found.communities_line;
        rows_line = found.rows_line;
        order_line = found.order_line;
        has_line = found.has_line;
        defaults_line = found.defaults_line;
        first_line = found.first_line;
        permanent_lines = permanent_lines;
        font_lines = font_lines;
        lines_are = refl;
        size = size_found it.config.face (words_of found.size_line) found.size;
        communities = communities_found it.config (words_of found.communities_line) found.communities;
        rows = rows_found it.table (words_of found.rows_line) (found.rows ∙ ap Some (counts_alike head permanent fonts));
        order = order_line_found it.table (words_of found.order_line) found.order;
        services = services_found it.table.services (words_of found.has_line) found.services;
        defaults = defaults_found it.config.face.defaults (words_of found.defaults_line) found.defaults;
        first = first_found it.first (words_of found.first_line) found.first;
        permanent = rows;
        fonts = spelled;
        can_be_made = can;
      };
    }

body_found : (lines after rest : List (List ℕ)) (head : HeadModel) → FoundHead lines (head, after) → end_at (fonts_at (rows_from [] after).1).1 ≡ Some rest
    → CanBeMade (described head (rows_from [] after).0 (fonts_at (rows_from [] after).1).0).config (described head (rows_from [] after).0 (fonts_at (rows_from [] after).1).0).table
    → BeginsWith lines rest (described head (rows_from [] after).0 (fonts_at (rows_from [] after).1).0)
body_found lines after rest head found ends can =
    let rows = row.rows_found after [] in
    let fonts = font.all_found (rows_from [] after).1 in
    assembled lines after (rows_from [] after).1 (fonts_at (rows_from [] after).1).1 rest head (rows_from [] after).0 rows.prefix (fonts_at (rows_from [] after).1).0 fonts.prefix found
    rows.lines_are (subst (λ all. SpellsEach SpellsPermanentLine all rows.prefix) (sym rows.rows_are) rows.spelled) fonts.lines_are fonts.spelled (end_found _ rest ends) can

pub read_is_spelled : (lines rest : List (List ℕ)) (it : Description) → description_at lines ≡ Some (it, rest) → CanBeMade it.config it.table → BeginsWith lines rest it
unfolding description_at
read_is_spelled lines rest it e can = grind (arith, begun, same_Some, body_found, head_found)

-- ---- spelled, and so read

abbrev head_of : Description → HeadModel
head_of it = record {
  beginning = record {
    size = record { width = it.config.face.width; height = it.config.face.height };
    communities = record { reader = it.config.reader; writer = it.config.writer };
    rows = record { changeable = length it.table.changeable; volatile = length it.table.volatile };
    order = it.table.order;
  };
  services = it.table.services;
  defaults = it.config.face.defaults;
  first = it.first;
}

described_again : (it : Description) → CanBeMade it.config it.table → described (head_of it) it.table.permanent it.config.face.fonts ≡ it
described_again it can = grind arith

-- neither `end` nor the first line of a font is a permanent row
end_is_no_row : row_of (words_of (codes "end")) ≡ None
unfolding row_of row_words keyword_at word_at
end_is_no_row = refl

header_is_no_row : (it : FontModel) (words : List (List ℕ)) → SpellsHeader it words → row_of words ≡ None
unfolding row_of row_words keyword_at word_at
header_is_no_row it words spelled = ap row_of spelled.words_are

other_is_no_row : (line : List ℕ) → (line ≡ codes "end") ⊎ ((it : FontModel) × SpellsHeader it (words_of line)) → row_of (words_of line) ≡ None
other_is_no_row line (inl is) = ap (λ octets. row_of (words_of octets)) is ∙ end_is_no_row
other_is_no_row line (inr header) = header_is_no_row header.0 (words_of line) header.1

rows_end : (fonts : List FontModel) (font_lines rest : List (List ℕ)) → SpellsFonts fonts font_lines → (rows : List RowModel)
    → rows_from rows (font_lines ++ codes "end" ∷ rest) ≡ (rows, font_lines ++ codes "end" ∷ rest)
rows_end fonts font_lines rest spelled rows =
    let other = font.other_line fonts font_lines rest spelled in
    ap (rows_from rows) other.lines_are ∙ row.no_row rows other.line other.rest (other_is_no_row other.line other.words) ∙ ap (λ lines. (rows, lines)) (sym other.lines_are)

body_only : (it : Description) (permanent_lines font_lines rest : List (List ℕ)) → SpellsEach SpellsPermanentLine it.table.permanent permanent_lines
    → SpellsFonts it.config.face.fonts font_lines
    → body_at (head_of it) (rows_from [] (permanent_lines ++ (font_lines ++ codes "end" ∷ rest))) ≡ Some (described (head_of it) it.table.permanent it.config.face.fonts, rest)
body_only it permanent_lines font_lines rest permanent fonts =
    ap (body_at (head_of it)) (row.rows_only it.table.permanent permanent_lines (font_lines ++ codes "end" ∷ rest) [] permanent (rows_end it.config.face.fonts font_lines rest fonts))
    ∙ ap (λ (found : List FontModel × List (List ℕ)). end_at found.1 >>= λ after. Some (described (head_of it) it.table.permanent found.0, after))
    (font.all_read it.config.face.fonts font_lines rest fonts)

community_some : (community : List ℕ) → has_community_size community ≡ true → 0 < length community
community_some community e = grind arith

pub spelled_is_read : (prefix rest : List (List ℕ)) (it : Description) → SpellsSign prefix it → description_at (prefix ++ rest) ≡ Some (it, rest)
unfolding description_at
spelled_is_read prefix rest it s =
    let tail : List (List ℕ) = (s.permanent_lines ++ s.font_lines ++ codes "end" ∷ []) ++ rest in
    ap (λ lines. description_at (lines ++ rest)) s.lines_are
    ∙ goes_on _ _ _ (head_only (head_of it) s.size_line s.communities_line s.rows_line s.order_line s.has_line s.defaults_line s.first_line tail
    (size_only it.config.face (words_of s.size_line) s.size)
    (communities_only it.config (words_of s.communities_line) (community_some it.config.reader s.can_be_made.reader) (community_some it.config.writer s.can_be_made.writer) s.communities)
    (rows_only it.table (words_of s.rows_line) s.rows)
    (order_line_only it.table (words_of s.order_line) s.order)
    (services_only it.table.services (words_of s.has_line) s.services)
    (defaults_only it.config.face.defaults (words_of s.defaults_line) s.defaults)
    (first_only it.first (words_of s.first_line) s.first))
    ∙ ap (λ lines. body_at (head_of it) (rows_from [] lines)) (joined s.permanent_lines s.font_lines (codes "end") rest)
    ∙ body_only it s.permanent_lines s.font_lines rest s.permanent s.fonts
    ∙ ap (λ (same : Description). Some (same, rest)) (described_again it s.can_be_made)

-- ---- one sign

pub begins_is_read : (lines rest : List (List ℕ)) (it : Description) → BeginsWith lines rest it → description_at lines ≡ Some (it, rest)
begins_is_read lines rest it begins = ap description_at begins.lines_are ∙ spelled_is_read begins.prefix rest it begins.spelled

-- lines begin with those of at most one sign
pub one_prefix : (lines rest others : List (List ℕ)) (it that : Description) → BeginsWith lines rest it → BeginsWith lines others that → (it ≡ that) × (rest ≡ others)
one_prefix lines rest others it that begins also =
    let same : (it, rest) ≡ (that, others) = same_Some _ _ (sym (begins_is_read lines rest it begins) ∙ begins_is_read lines others that also) in
    (ap (λ (found : Description × List (List ℕ)). found.0) same, ap (λ (found : Description × List (List ℕ)). found.1) same)

pub one_sign : (lines : List (List ℕ)) (one other : Description) → SpellsSign lines one → SpellsSign lines other → one ≡ other
one_sign lines one other spelled also =
    (one_prefix lines [] [] one other (record { prefix = lines; lines_are = sym (append-nil lines); spelled = spelled })
    (record { prefix = lines; lines_are = sym (append-nil lines); spelled = also })).0

-- ---- where none is read

pub none_begins : (lines : List (List ℕ)) → description_at lines ≡ None → (it : Description) (rest : List (List ℕ)) → BeginsWith lines rest it → ⊥
none_begins lines none it rest begins = absurd (let wrong : None ≡ Some (it, rest) = sym none ∙ begins_is_read lines rest it begins in cc)

pub refused_begins : (lines after : List (List ℕ)) (found : Description) → description_at lines ≡ Some (found, after) → (CanBeMade found.config found.table → ⊥)
    → (it : Description) (rest : List (List ℕ)) → BeginsWith lines rest it → ⊥
refused_begins lines after found read refused it rest begins =
    let same : (it, rest) ≡ (found, after) = same_Some _ _ (sym (begins_is_read lines rest it begins) ∙ read) in
    let is : it ≡ found = ap (λ (pair : Description × List (List ℕ)). pair.0) same in
    refused (subst (λ (d : Description). CanBeMade d.config d.table) is begins.spelled.can_be_made)
