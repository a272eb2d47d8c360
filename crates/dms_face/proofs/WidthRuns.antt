-- A run of characters by the columns of its octets alone.
use Rattle.std.proofs.Common.{◌≡◌, ℕ, ◌+◌, ◌≤◌, ◌<◌, Bool, true, false, cond, List, [], ◌∷◌, nat_lt, Option, Some, None, refl, ap, sym, ◌∙◌, arith}
use Rattle.std.proofs.lemmas.Bool.Decides.{nat_tests}
use Rattle.dms_multi.specs.Grammar.{is_bracket}
use Rattle.dms_face_font.specs.Glyph.{GlyphModel}
use Rattle.dms_face_font.specs.Font.{FontModel, glyph_of}
use Rattle.dms_face_font.specs.Widths.{no_width, width_of, plain_width}
use Rattle.dms_face.specs.Runs.{run_with, run_after}

-- with no character there is no room
by_glyph : (font : FontModel) (limit : ℕ) (text : List ℕ) (size longer : ℕ) (more : ℕ → List ℕ × ℕ) (found : Option GlyphModel) → limit ≤ 257
    → longer ≡ size + font.character_spacing + width_of found
    → run_with font limit text size more found ≡ cond (nat_lt longer limit) (more longer) (text, size)
by_glyph font limit text size longer more None small is = let over : nat_lt longer limit ≡ false = grind (arith, nat_tests) in sym (ap (λ b. cond b (more longer) (text, size)) over)
by_glyph font limit text size longer more (Some glyph) small is = sym (ap (λ n. cond (nat_lt n limit) (more n) (text, size)) is)

by_bracket : (font : FontModel) (limit : ℕ) (text : List ℕ) (size longer : ℕ) (more : ℕ → List ℕ × ℕ) (found : Option GlyphModel) (bracket : Bool) → limit ≤ 257
    → longer ≡ size + font.character_spacing + cond bracket no_width (width_of found)
    → cond bracket (text, size) (run_with font limit text size more found) ≡ cond (nat_lt longer limit) (more longer) (text, size)
by_bracket font limit text size longer more found true small is = let over : nat_lt longer limit ≡ false = grind (arith, nat_tests) in sym (ap (λ b. cond b (more longer) (text, size)) over)
by_bracket font limit text size longer more found false small is = by_glyph font limit text size longer more found small is

by_width : (font : FontModel) (limit c : ℕ) (cs : List ℕ) (size longer : ℕ) → limit ≤ 257 → longer ≡ size + font.character_spacing + plain_width font.glyphs c
    → run_after font limit (c ∷ cs) size ≡ cond (nat_lt longer limit) (run_after font limit cs longer) (c ∷ cs, size)
unfolding run_after
by_width font limit c cs size longer small is =
    by_bracket font limit (c ∷ cs) size longer (run_after font limit cs) (glyph_of font c) (is_bracket c) small is

-- the run ends before an octet that has no room
pub run_ends : (font : FontModel) (limit c : ℕ) (cs : List ℕ) (size longer : ℕ) → limit ≤ 257 → longer ≡ size + font.character_spacing + plain_width font.glyphs c → limit ≤ longer
    → run_after font limit (c ∷ cs) size ≡ (c ∷ cs, size)
run_ends font limit c cs size longer small is over =
    let test : nat_lt longer limit ≡ false = grind (arith, nat_tests) in
    by_width font limit c cs size longer small is ∙ ap (λ b. cond b (run_after font limit cs longer) (c ∷ cs, size)) test

-- and goes on behind one that has
pub run_goes_on : (font : FontModel) (limit c : ℕ) (cs : List ℕ) (size longer : ℕ) → limit ≤ 257 → longer ≡ size + font.character_spacing + plain_width font.glyphs c → longer < limit
    → run_after font limit (c ∷ cs) size ≡ run_after font limit cs longer
run_goes_on font limit c cs size longer small is below =
    let test : nat_lt longer limit ≡ true = grind (arith, nat_tests) in
    by_width font limit c cs size longer small is ∙ ap (λ b. cond b (run_after font limit cs longer) (c ∷ cs, size)) test

pub run_of_none : (font : FontModel) (limit : ℕ) (size : ℕ) → run_after font limit [] size ≡ ([], size)
unfolding run_after
run_of_none font limit size = refl

pub ruleset steps = (run_ends, run_goes_on, run_of_none)
