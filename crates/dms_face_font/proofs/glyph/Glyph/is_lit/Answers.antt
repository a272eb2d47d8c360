use Rattle.std.proofs.Common.{◌∙◌, ◌==◌, ◌≤◌, sym, ap, arith}
use Rattle.std.proofs.lemmas.Nat.Bits.{shr_and_one, bit_at_above}
use Rattle.dms_face_font.proofs.glyph.Glyph.is_lit.Goals as goal

pub returns-then-column-from : goal.returns-then-column-from
returns-then-column-from c =
    let beside : 32 ≤ c.args.column = omega (arith, c.from.ensures, c.if-column-from.true) in
    sym (ap (λ bit. bit == 1) (bit_at_above c.row-bits.result 32 c.args.column (omega arith) beside)) ∙ c.row-bits.ensures c.args.column

pub returns : goal.returns
returns c = ap (λ bit. bit == 1) (shr_and_one c.row-bits.result c.args.column) ∙ c.row-bits.ensures c.args.column
