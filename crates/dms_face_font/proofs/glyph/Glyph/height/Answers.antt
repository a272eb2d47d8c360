use Rattle.std.proofs.Common.{◌≡◌, ℕ, ◌<◌, true, take, subst, arith}
use Rattle.std.proofs.lemmas.List.{length-map}
use Rattle.dms_face_font.specs.Glyph.{GlyphModel, lit_at}
use Rattle.dms_face_font.proofs.RowNumbers.{lit_within}
use Rattle.dms_face_font.proofs.glyph.Glyph.height.Goals as goal

pub returns-clause-rows : goal.returns-clause-rows
returns-clause-rows c = grind (arith, length-map)

pub returns-clause-inside : goal.returns-clause-inside
returns-clause-inside c =
    let glyph = c.self.inside in
    let P : GlyphModel → Type 0 = λ g. (column : ℕ) → (row : ℕ) → lit_at g column row ≡ true → column < g.width × row < glyph.height in
    subst P c.self.view_is (λ column row on.
    let within = lit_within glyph.character glyph.width (take glyph.height glyph.rows) column row on in
    (within.0, omega (arith, within.1, c.self.invariant.height_is)))
