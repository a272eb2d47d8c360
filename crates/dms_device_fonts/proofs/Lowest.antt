-- The character with the least number.
use Rattle.std.proofs.Common.{◌≡◌, ℕ, ◌-◌, ◌<◌, ◌≤◌, ◌==◌, ◌&&◌, ◌||◌, ◌⊎◌, Bool, true, false, cond, List, [], ◌∷◌, Some, None, inl, inr, refl, sym, ap, subst, ◌∙◌, arith}
use Rattle.std.specs.Prelude.{nat_le, nat_lt, option_map}
use Rattle.std.proofs.lemmas.Bool.{eqb-true, eq-eqb, or_parts, both_ways, false_from_ne_true}
use Rattle.std.proofs.lemmas.Bool.Decides.{nat_tests}
use Rattle.dms_wire.specs.Message.{ObjectValue, VarBind}
use Rattle.dms_face_font.specs.Glyph.{GlyphModel}
use Rattle.dms_face_font.specs.Font.{FontModel, glyph_in, has_glyph, glyph_of}
use Rattle.dms_device_fonts.specs.Tree.{tree_first, first_from}
use Rattle.dms_device_fonts.specs.Fonts.{character_cell, character_leaf}
use Rattle.dms_device_fonts.specs.View.{lowest, character_binding}
use Rattle.dms_device_fonts.proofs.Spans.{first_is, none_is}

-- ---- a character among some

lacking : (glyphs : List GlyphModel) (n : ℕ) → has_glyph glyphs n ≡ false → glyph_in glyphs n ≡ None
lacking [] n e = refl
lacking (glyph ∷ glyphs) n e =
    let parts = or_parts (glyph.character == n) (has_glyph glyphs n) e in
    ap (λ b. cond b (Some glyph) (glyph_in glyphs n)) parts.0 ∙ lacking glyphs n parts.1

record Has (glyphs : List GlyphModel) (n : ℕ) : Type 0 where
  glyph : GlyphModel
  is : glyph_in glyphs n ≡ Some glyph
  named : glyph.character ≡ n

having : (glyphs : List GlyphModel) (n : ℕ) → has_glyph glyphs n ≡ true → Has glyphs n
having [] n e = absurd (both_ways false refl e)
having (glyph ∷ glyphs) n e = by_test (glyph.character == n) refl (λ rest. having glyphs n rest)
  where
    by_test : (b : Bool) → (glyph.character == n) ≡ b → (has_glyph glyphs n ≡ true → Has glyphs n) → Has (glyph ∷ glyphs) n
    by_test true is later = record { glyph = glyph; is = ap (λ b. cond b (Some glyph) (glyph_in glyphs n)) is; named = eqb-true _ _ is }
    by_test false is later =
        let more = later (sym (ap (λ b. b || has_glyph glyphs n) is) ∙ e) in
        record { glyph = more.glyph; is = ap (λ b. cond b (Some glyph) (glyph_in glyphs n)) is ∙ more.is; named = more.named }

not_same : (a b : ℕ) → b < a → (a == b) ≡ false
not_same a b less = false_from_ne_true (a == b) (λ e. let same : a ≡ b = eqb-true _ _ e in absurd (omega arith))

-- ---- the least number

record IsLowest (least found : ℕ) (glyphs : List GlyphModel) (n : ℕ) : Type 0 where
  most : n ≤ found
  none : (k : ℕ) → least ≤ k → k < n → has_glyph glyphs k ≡ false
  there : (n ≡ found) ⊎ ((has_glyph glyphs n ≡ true) × (least ≤ n))

lower : (least found : ℕ) (glyph : GlyphModel) (glyphs : List GlyphModel) (n : ℕ) → least ≤ glyph.character → glyph.character < found → IsLowest least glyph.character glyphs n
    → IsLowest least found (glyph ∷ glyphs) n
lower least found glyph glyphs n low less is = record {
  most = omega (arith, is.most);
  none = λ k over under. let differs : (glyph.character == k) ≡ false = not_same glyph.character k (omega (arith, is.most)) in ap (λ b. b || has_glyph glyphs k) differs ∙ is.none k over under;
  there = inr (elim is.there [
    | inl same ↦ (let here : (glyph.character == n) ≡ true = eq-eqb _ _ (sym same) in ap (λ b. b || has_glyph glyphs n) here, omega arith)
    | inr more ↦ (or_more (glyph.character == n) (has_glyph glyphs n) more.0, more.1)
  ]);
}
  where
    or_more : (b c : Bool) → c ≡ true → (b || c) ≡ true
    or_more true c e = refl
    or_more false c e = e

not_lower : (least found : ℕ) (glyph : GlyphModel) (glyphs : List GlyphModel) (n : ℕ) → (least ≤ glyph.character → glyph.character < found → ⊥) → IsLowest least found glyphs n
    → IsLowest least found (glyph ∷ glyphs) n
not_lower least found glyph glyphs n other is = record {
  most = is.most;
  none = λ k over under. ap (λ b. b || has_glyph glyphs k) (differs k over under) ∙ is.none k over under;
  there = elim is.there [
    | inl same ↦ inl same
    | inr more ↦ inr (or_more (glyph.character == n) (has_glyph glyphs n) more.0, more.1)
  ];
}
  where
    or_more : (b c : Bool) → c ≡ true → (b || c) ≡ true
    or_more true c e = refl
    or_more false c e = e

    by_test : (k : ℕ) → least ≤ k → k < n → (b : Bool) → (glyph.character == k) ≡ b → b ≡ false
    by_test k over under false e = refl
    by_test k over under true e =
        let same : glyph.character ≡ k = eqb-true _ _ e in
        absurd (other (omega arith) (omega (arith, is.most)))

    differs : (k : ℕ) → least ≤ k → k < n → (glyph.character == k) ≡ false
    differs k over under = by_test k over under (glyph.character == k) refl

taken_so : (least found n : ℕ) → least ≤ n → n < found → (nat_le least n && nat_lt n found) ≡ true
taken_so least found n low less = grind (arith, nat_tests)

lowest_is : (least found : ℕ) (glyphs : List GlyphModel) → IsLowest least found glyphs (lowest least found glyphs)
lowest_is least found [] = record { most = omega arith; none = λ k over under. refl; there = inl refl }
lowest_is least found (glyph ∷ glyphs) = by_test (nat_le least glyph.character && nat_lt glyph.character found) refl (lowest_is least glyph.character glyphs) (lowest_is least found glyphs)
  where
    by_test : (b : Bool) → (nat_le least glyph.character && nat_lt glyph.character found) ≡ b → IsLowest least glyph.character glyphs (lowest least glyph.character glyphs)
        → IsLowest least found glyphs (lowest least found glyphs)
        → IsLowest least found (glyph ∷ glyphs) (lowest least (cond b glyph.character found) glyphs)
    by_test true e taken left =
        let low : least ≤ glyph.character = grind (arith, nat_tests) in
        let less : glyph.character < found = grind (arith, nat_tests) in
        lower least found glyph glyphs (lowest least glyph.character glyphs) low less taken
    by_test false e taken left =
        not_lower least found glyph glyphs (lowest least found glyphs) (λ low less. both_ways _ e (taken_so least found glyph.character low less)) left

-- ---- what is first of the characters of a font

abbrev bound : ObjectValue → VarBind
bound v = record { name = []; value = v }

leaf_lacks : (font : FontModel) (column k : ℕ) → has_glyph font.glyphs k ≡ false → tree_first (character_leaf font column k) ≡ None
leaf_lacks font column k e = ap (λ o. option_map bound (option_map (λ (g : GlyphModel). character_cell g column) o)) (lacking font.glyphs k e)

pub least_none : (font : FontModel) (column least number : ℕ) → least ≤ 65536 → number ≡ lowest least 65536 font.glyphs → 65535 < number
    → None ≡ first_from (λ n. tree_first (character_leaf font column n)) least (65536 - least)
least_none font column least number high is past =
    let found = lowest_is least 65536 font.glyphs in
    sym (none_is (λ n. tree_first (character_leaf font column n)) least (65536 - least)
    (λ k over under. leaf_lacks font column k (found.none k over (omega (arith, is)))))

pub least_some : (font : FontModel) (column least number : ℕ) → least ≤ 65536 → number ≡ lowest least 65536 font.glyphs → number ≤ 65535
    → option_map (character_binding column) (glyph_of font number) ≡ first_from (λ n. tree_first (character_leaf font column n)) least (65536 - least)
least_some font column least number high is few =
    elim there.there [
      | inl none ↦ absurd (omega arith)
      | inr some ↦
          let has = having font.glyphs number some.0 in
          let leaf : tree_first (character_leaf font column number) ≡ Some (bound (character_cell has.glyph column)) =
          ap (λ o. option_map bound (option_map (λ (g : GlyphModel). character_cell g column) o)) has.is in
          ap (option_map (character_binding column)) has.is
          ∙ ap (λ n. Some (record { name = n ∷ []; value = character_cell has.glyph column })) has.named
          ∙ sym (first_is (λ n. tree_first (character_leaf font column n)) least (65536 - least) number (bound (character_cell has.glyph column)) some.1 (omega (arith, few, high, some.1))
          (λ k over under. leaf_lacks font column k (there.none k over under)) leaf)
    ]
  where
    there : IsLowest least 65536 font.glyphs number
    there = subst (IsLowest least 65536 font.glyphs) (sym is) (lowest_is least 65536 font.glyphs)
