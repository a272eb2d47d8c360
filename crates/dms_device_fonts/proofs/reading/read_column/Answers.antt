use Rattle.std.proofs.Common.{◌≡◌, ◌-◌, Some, ap, sym, subst, ◌∙◌, refl, length, arith}
use Rattle.std.specs.Prelude.{option_map}
use Rattle.std.proofs.lemmas.Option.{slice_get_read}
use Rattle.dms_wire.specs.View.{object_value}
use Rattle.dms_device_fonts.specs.Tree.{tree_value}
use Rattle.dms_device_fonts.specs.Fonts.{font_row, font_at, column_cells}
use Rattle.dms_device_fonts.specs.declared.place.FontTable.TheVariants.{Fonts, Characters}
use Rattle.dms_device_fonts.proofs.ValueLaws.{row_reads}
use Rattle.dms_device_fonts.proofs.reading.read_column.Goals as goal

pub returns-in_err-row : goal.returns-in_err-row
returns-in_err-row c =
    ap (option_map object_value) c.from_residual.ensures
    ∙ sym (c.in_err-row.ensures.value (λ index. font_row c.args.table c.args.column.number index (font_at c.args.fonts.now index)))

pub returns-in-Fonts : goal.returns-in-Fonts
returns-in-Fonts c =
    let fonts = c.args.fonts.now in
    let row = c.in_ok-row.row in
    let font = c.index-fonts-row.result in
    let at : font_at fonts row.number ≡ Some font =
    slice_get_read fonts (length fonts) (row.number - 1) font refl (omega (arith, c.in_ok-row.ensures.low, c.in_ok-row.ensures.high)) c.index-fonts-row.is in
    subst (λ t. option_map object_value c.read_font.result ≡ tree_value (column_cells t fonts c.args.column.number) c.args.column.rest) (sym c.in-Fonts.is)
    (row_reads Fonts fonts c.args.column.number row.number font c.args.column.rest row.rest (option_map object_value c.read_font.result) at
    (c.in_ok-row.ensures.value (λ index. font_row Fonts c.args.column.number index (font_at fonts index))) c.read_font.ensures)

pub returns-in-Characters : goal.returns-in-Characters
returns-in-Characters c =
    let fonts = c.args.fonts.now in
    let row = c.in_ok-row.row in
    let font = c.index-fonts-row.result in
    let at : font_at fonts row.number ≡ Some font =
    slice_get_read fonts (length fonts) (row.number - 1) font refl (omega (arith, c.in_ok-row.ensures.low, c.in_ok-row.ensures.high)) c.index-fonts-row.is in
    subst (λ t. option_map object_value c.read_character.result ≡ tree_value (column_cells t fonts c.args.column.number) c.args.column.rest) (sym c.in-Characters.is)
    (row_reads Characters fonts c.args.column.number row.number font c.args.column.rest row.rest (option_map object_value c.read_character.result) at
    (c.in_ok-row.ensures.value (λ index. font_row Characters c.args.column.number index (font_at fonts index))) (c.read_character.ensures row.number))
