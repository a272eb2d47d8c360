-- The table of the columns that octets take.
use Rattle.std.proofs.Common.{◌≡◌, ◌≢◌, ℕ, suc, ◌≤◌, ◌<◌, ◌==◌, Bool, true, false, cond, not, nat_lt, ◌||◌, ◌&&◌, List, [], ◌∷◌, ◌++◌, get_or, set, replicate, Option, Some, None, refl, sym, ap, ◌∙◌, arith}
use Rattle.std.proofs.lemmas.Bool.{or_parts, and_parts, not-true, eqb-true, eq-eqb}
use Rattle.std.proofs.lemmas.Bool.Decides.{nat_tests}
use Rattle.std.proofs.lemmas.Grind.{get_or-set_at}
use Rattle.std.proofs.lemmas.List.{get_or-replicate, get_or-set_other, length-set, length-replicate}
use Rattle.std.specs.List.{All}
use Rattle.dms_face_font.specs.Glyph.{GlyphModel}
use Rattle.dms_face_font.specs.Font.{FontModel, IsGlyph, glyph_in, has_glyph}
use Rattle.dms_face_font.specs.Widths.{no_width, width_of, is_bracket, plain_width, AreWidths, IsKept}

-- no character yet
plain_of_none : (octet : ℕ) → plain_width [] octet ≡ no_width
plain_of_none octet = grind arith

pub no_widths : AreWidths (replicate 256 65535) []
no_widths = record {
  all = length-replicate {A = ℕ} 256 65535;
  each = λ octet small. get_or-replicate 256 octet 65535 0 small ∙ sym (plain_of_none octet);
}

-- ---- a character that is not there, and one that is

lacking : (glyphs : List GlyphModel) (character : ℕ) → has_glyph glyphs character ≡ false → glyph_in glyphs character ≡ None
lacking [] character none = refl
lacking (glyph ∷ glyphs) character none =
    let parts = or_parts (glyph.character == character) (has_glyph glyphs character) none in
    ap (λ b. cond b (Some glyph) (glyph_in glyphs character)) parts.0 ∙ lacking glyphs character parts.1

-- the one at the end is found where it is the first of its character
at_end : (glyphs : List GlyphModel) (glyph : GlyphModel) (character : ℕ) → has_glyph glyphs character ≡ false → glyph.character ≡ character
    → glyph_in (glyphs ++ glyph ∷ []) character ≡ Some glyph
at_end [] glyph character none is = ap (λ b. cond b (Some glyph) None) (eq-eqb _ _ is)
at_end (first ∷ glyphs) glyph character none is =
    let parts = or_parts (first.character == character) (has_glyph glyphs character) none in
    ap (λ b. cond b (Some first) (glyph_in (glyphs ++ glyph ∷ []) character)) parts.0 ∙ at_end glyphs glyph character parts.1 is

-- and no other is
by_first : (b : Bool) (first : GlyphModel) (x y : Option GlyphModel) → x ≡ y → cond b (Some first) x ≡ cond b (Some first) y
by_first b first x y same = ap (λ o. cond b (Some first) o) same

not_at_end : (glyphs : List GlyphModel) (glyph : GlyphModel) (character : ℕ) → (glyph.character == character) ≡ false
    → glyph_in (glyphs ++ glyph ∷ []) character ≡ glyph_in glyphs character
not_at_end [] glyph character other = ap (λ b. cond b (Some glyph) None) other
not_at_end (first ∷ glyphs) glyph character other =
    by_first (first.character == character) first (glyph_in (glyphs ++ glyph ∷ []) character) (glyph_in glyphs character) (not_at_end glyphs glyph character other)

-- ---- one character more

more_of : (glyphs : List GlyphModel) (glyph : GlyphModel) (octet : ℕ) → (glyph.character == octet) ≡ false
    → plain_width glyphs octet ≡ plain_width (glyphs ++ glyph ∷ []) octet
more_of glyphs glyph octet other = ap (λ o. cond (is_bracket octet) no_width (width_of o)) (sym (not_at_end glyphs glyph octet other))

bracket_more : (glyphs : List GlyphModel) (glyph : GlyphModel) (octet : ℕ) → is_bracket octet ≡ true
    → plain_width glyphs octet ≡ plain_width (glyphs ++ glyph ∷ []) octet
bracket_more glyphs glyph octet bracket =
    ap (λ b. cond b no_width (width_of (glyph_in glyphs octet))) bracket ∙ sym (ap (λ b. cond b no_width (width_of (glyph_in (glyphs ++ glyph ∷ []) octet))) bracket)

same_more : (glyphs : List GlyphModel) (glyph : GlyphModel) (octet : ℕ) (b : Bool) → (glyph.character == octet) ≡ b → (glyph.character ≡ octet → is_bracket octet ≡ true)
    → plain_width glyphs octet ≡ plain_width (glyphs ++ glyph ∷ []) octet
same_more glyphs glyph octet true e bracket = bracket_more glyphs glyph octet (bracket (eqb-true _ _ e))
same_more glyphs glyph octet false e bracket = more_of glyphs glyph octet e

-- one that no octet spells by itself changes nothing
pub other_added : (widths : List ℕ) (glyphs : List GlyphModel) (glyph : GlyphModel) (character : ℕ) → AreWidths widths glyphs → glyph.character ≡ character
    → (nat_lt character 256 && not (is_bracket character)) ≡ false → AreWidths widths (glyphs ++ glyph ∷ [])
other_added widths glyphs glyph character are is none = record {
  all = are.all;
  each = λ octet small. are.each octet small ∙ same_more glyphs glyph octet (glyph.character == octet) refl (λ same. bracket_of octet small (nat_tests_of octet small) (sym same ∙ is));
}
  where
    by_bracket : (b : Bool) → (true && not b) ≡ false → b ≡ true
    by_bracket b e = grind arith

    nat_tests_of : (octet : ℕ) → octet < 256 → nat_lt octet 256 ≡ true
    nat_tests_of octet small = grind (arith, nat_tests)

    bracket_of : (octet : ℕ) → octet < 256 → nat_lt octet 256 ≡ true → octet ≡ character → is_bracket octet ≡ true
    bracket_of octet small below same =
        by_bracket (is_bracket octet) (ap (λ b. b && not (is_bracket octet)) (sym below) ∙ ap (λ n. nat_lt n 256 && not (is_bracket n)) same ∙ none)

pub plain_added : (widths : List ℕ) (glyphs : List GlyphModel) (glyph : GlyphModel) (character width index slot : ℕ) → AreWidths widths glyphs → glyph.character ≡ character
    → glyph.width ≡ width → has_glyph glyphs character ≡ false → (nat_lt character 256 && not (is_bracket character)) ≡ true → index ≡ character → slot ≡ width
    → AreWidths (set widths index slot) (glyphs ++ glyph ∷ [])
plain_added widths glyphs glyph character width index slot are is wide none plain at there = record {
  all = length-set widths index slot ∙ are.all;
  each = λ octet small. by_same octet small (glyph.character == octet) refl;
}
  where
    parts : (nat_lt character 256 ≡ true) × (not (is_bracket character) ≡ true)
    parts = and_parts _ _ plain

    low : character < 256
    low = grind (arith, nat_tests, parts.0)

    no_bracket : is_bracket character ≡ false
    no_bracket = not-true _ parts.1

    there_now : plain_width (glyphs ++ glyph ∷ []) character ≡ slot
    there_now =
        ap (λ b. cond b no_width (width_of (glyph_in (glyphs ++ glyph ∷ []) character))) no_bracket ∙ ap width_of (at_end glyphs glyph character none is) ∙ wide ∙ sym there

    by_same : (octet : ℕ) → octet < 256 → (b : Bool) → (glyph.character == octet) ≡ b → get_or (set widths index slot) octet 0 ≡ plain_width (glyphs ++ glyph ∷ []) octet
    by_same octet small true e =
        let same : octet ≡ character = sym (eqb-true _ _ e) ∙ is in
        get_or-set_at widths index octet slot 0 (same ∙ sym at) (omega (arith, low, at, are.all)) ∙ sym there_now ∙ ap (plain_width (glyphs ++ glyph ∷ [])) (sym same)
    by_same octet small false e =
        let other : octet ≢ index = grind arith in
        get_or-set_other widths index octet slot 0 other ∙ are.each octet small ∙ more_of glyphs glyph octet e

-- ---- whether a character is there

one_more_has : (b : Bool) (glyph : GlyphModel) (found : Option GlyphModel) (more : Bool) → glyph.width ≤ 32 → not (width_of found == no_width) ≡ more
    → not (width_of (cond b (Some glyph) found) == no_width) ≡ (b || more)
one_more_has true glyph found more small rest = grind arith
one_more_has false glyph found more small rest = rest

has_one : (glyphs : List GlyphModel) (height character : ℕ) → All (IsGlyph height) glyphs → not (width_of (glyph_in glyphs character) == no_width) ≡ has_glyph glyphs character
has_one [] height character are = refl
has_one (glyph ∷ glyphs) height character are =
    one_more_has (glyph.character == character) glyph (glyph_in glyphs character) (has_glyph glyphs character) (are 0 glyph (omega arith)).greatest_width
    (has_one glyphs height character (λ k other below. are (suc k) other (omega arith)))

pub has_by_width : (font : FontModel) (widths : List ℕ) (character index width : ℕ) → IsKept font widths → (nat_lt character 256 && not (is_bracket character)) ≡ true → index ≡ character
    → width ≡ get_or widths index 0 → not (width == 65535) ≡ has_glyph font.glyphs character
has_by_width font widths character index width kept plain at is =
    let parts : (nat_lt character 256 ≡ true) × (not (is_bracket character) ≡ true) = and_parts _ _ plain in
    let low : character < 256 = grind (arith, nat_tests) in
    let no_bracket : is_bracket character ≡ false = not-true _ parts.1 in
    let found : width ≡ width_of (glyph_in font.glyphs character) =
    is ∙ ap (λ n. get_or widths n 0) at ∙ kept.plain.each character low ∙ ap (λ b. cond b no_width (width_of (glyph_in font.glyphs character))) no_bracket in
    ap (λ n. not (n == 65535)) found ∙ has_one font.glyphs font.height character kept.limits.glyphs

pub ruleset tables = (no_widths, other_added, plain_added, has_by_width)
