-- Where characters stand once each, the one found at any place is the one that a search finds.
use Rattle.std.proofs.Common.{◌≡◌, ℕ, zero, suc, ◌<◌, ◌==◌, Bool, true, false, cond, not, List, [], ◌∷◌, length, get_or, Some, refl, sym, ap, ◌∙◌, arith}
use Rattle.std.proofs.lemmas.Bool.{and_parts, not-true, or_parts, eqb-true, eq-eqb}
use Rattle.dms_face_font.specs.Glyph.{GlyphModel}
use Rattle.dms_face_font.specs.Font.{glyph_in, has_glyph, are_distinct}

-- what none has, the one at a place has not
lacks_at : (glyphs : List GlyphModel) (k character : ℕ) (other : GlyphModel) → has_glyph glyphs character ≡ false → k < length glyphs → ((get_or glyphs k other).character == character) ≡ false
lacks_at [] k character other none below = absurd (omega arith)
lacks_at (glyph ∷ glyphs) zero character other none below = (or_parts _ _ none).0
lacks_at (glyph ∷ glyphs) (suc k) character other none below = lacks_at glyphs k character other ((or_parts _ _ none).1) (omega arith)

pub found_at : (glyphs : List GlyphModel) (k character : ℕ) (other : GlyphModel) → are_distinct glyphs ≡ true → k < length glyphs → (get_or glyphs k other).character ≡ character
    → glyph_in glyphs character ≡ Some (get_or glyphs k other)
found_at [] k character other once below is = absurd (omega arith)
found_at (glyph ∷ glyphs) zero character other once below is = ap (λ b. cond b (Some glyph) (glyph_in glyphs character)) (eq-eqb _ _ is)
found_at (glyph ∷ glyphs) (suc k) character other once below is =
    let parts = and_parts (not (has_glyph glyphs glyph.character)) (are_distinct glyphs) once in
    let differs : (glyph.character == character) ≡ false = first_differs (glyph.character == character) refl in
    ap (λ b. cond b (Some glyph) (glyph_in glyphs character)) differs ∙ found_at glyphs k character other parts.1 (omega arith) is
  where
    first_differs : (b : Bool) → (glyph.character == character) ≡ b → b ≡ false
    first_differs false e = refl
    first_differs true e =
        let same : character ≡ glyph.character = sym (eqb-true _ _ e) in
        let none : has_glyph glyphs character ≡ false = ap (has_glyph glyphs) same ∙ not-true _ ((and_parts (not (has_glyph glyphs glyph.character)) (are_distinct glyphs) once).0) in
        absurd (let wrong : true ≡ false = sym (eq-eqb _ _ is) ∙ lacks_at glyphs k character other none (omega arith) in cc)

pub ruleset hints = (found_at)
