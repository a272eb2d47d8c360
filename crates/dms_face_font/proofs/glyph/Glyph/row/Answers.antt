use Rattle.std.proofs.Common.{◌∙◌, ◌<◌, ◌≤◌, length, take, sym, ap, arith}
use Rattle.std.proofs.lemmas.List.{get_or_past, get_or-take}
use Rattle.dms_face_font.specs.Glyph.{lit_at, is_bit}
use Rattle.dms_face_font.proofs.RowNumbers.{lit_in_rows}
use Rattle.dms_face_font.proofs.glyph.Glyph.row.Goals as goal

pub returns-then-row-from : goal.returns-then-row-from
returns-then-row-from c = λ column.
    let glyph = c.self.inside in
    let rows = take glyph.height glyph.rows in
    let row = c.args.row in
    let below : row < glyph.height = omega (arith, c.from.ensures, c.if-row-from.true) in
    ap (λ n. is_bit n column) (sym (get_or-take glyph.height glyph.rows row 0 below))
    ∙ lit_in_rows glyph.character glyph.width glyph.height rows glyph.bitmap.items column row c.self.invariant
    ∙ ap (λ g. lit_at g column row) c.self.view_is

pub returns-else-row-from : goal.returns-else-row-from
returns-else-row-from c = λ column.
    let glyph = c.self.inside in
    let rows = take glyph.height glyph.rows in
    let row = c.args.row in
    let past : length rows ≤ row = omega (arith, c.from.ensures, c.if-row-from.false, c.self.invariant.height_is) in
    ap (λ n. is_bit n column) (sym (get_or_past rows row 0 past))
    ∙ lit_in_rows glyph.character glyph.width glyph.height rows glyph.bitmap.items column row c.self.invariant
    ∙ ap (λ g. lit_at g column row) c.self.view_is
