use Rattle.std.proofs.Common.{◌∙◌, ◌*◌, map, take, sym, ap, subst, arith}
use Rattle.dms_face_font.specs.Glyph.{bits_of, rows_of, row_number, octets_holding}
use Rattle.dms_face_font.specs.Font.{IsGlyph}
use Rattle.dms_face_font.proofs.Limits.{picture_is_glyph}
use Rattle.dms_face_font.proofs.RowNumbers.{rows_are_picture, rows_are_rows}
use Rattle.dms_face_font.proofs.glyph.Glyph.new.Goals as goal

pub returns-clause-value : goal.returns-clause-value
returns-clause-value c =
    rows_are_picture c.args.character c.args.width c.args.height c.args.bits.items (take c.args.height c.put_rows.new.rows) c.requires
    (c.put_rows.ensures ∙ ap (λ octets. map row_number (rows_of c.args.width c.args.height (bits_of octets))) c.as_slice.ensures.value)

pub returns-clause-limits : goal.returns-clause-limits
returns-clause-limits c =
    subst (IsGlyph c.args.height) (sym (
    rows_are_picture c.args.character c.args.width c.args.height c.args.bits.items (take c.args.height c.put_rows.new.rows) c.requires
    (c.put_rows.ensures ∙ ap (λ octets. map row_number (rows_of c.args.width c.args.height (bits_of octets))) c.as_slice.ensures.value)
    )) (picture_is_glyph c.args.character c.args.width c.args.height c.args.bits.items c.requires (omega arith))

pub invariant_of-result : goal.invariant_of-result
invariant_of-result c =
    rows_are_rows c.args.character c.args.width c.args.height c.args.bits.items (take c.args.height c.put_rows.new.rows) c.cleared.result.items c.requires
    (c.put_rows.ensures ∙ ap (λ octets. map row_number (rows_of c.args.width c.args.height (bits_of octets))) c.as_slice.ensures.value)
    (c.cleared.ensures ∙ ap (λ n. octets_holding (take n (bits_of c.args.bits.items))) (ap (λ n. n * c.from-2.result) c.from.ensures ∙ ap (λ n. c.args.width * n) c.from-2.ensures))
