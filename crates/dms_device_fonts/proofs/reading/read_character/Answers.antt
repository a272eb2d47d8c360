use Rattle.std.proofs.Common.{Some, ap, sym, ◌∙◌}
use Rattle.std.specs.Prelude.{option_map}
use Rattle.dms_wire.specs.View.{object_value}
use Rattle.dms_face_font.specs.Glyph.{GlyphModel}
use Rattle.dms_face_font.specs.Font.{glyph_of}
use Rattle.dms_device_fonts.specs.Fonts.{character_leaf, character_cell}
use Rattle.dms_device_fonts.proofs.ValueLaws.{leaf_none}
use Rattle.dms_device_fonts.proofs.reading.read_character.Goals as goal

pub returns-in_err-below : goal.returns-in_err-below
returns-in_err-below c = λ index.
    ap (option_map object_value) c.from_residual.ensures ∙ sym (c.in_err-below.ensures.value (character_leaf c.args.font.now c.args.column))

pub returns-in_err-glyph : goal.returns-in_err-glyph
returns-in_err-glyph c = λ index.
    let cell = option_map (λ (g : GlyphModel). character_cell g c.args.column) (glyph_of c.args.font.now c.in_ok-below.below.number) in
    ap (option_map object_value) c.from_residual-in_err-glyph.ensures
    ∙ sym (leaf_none cell c.in_ok-below.below.rest (sym (ap (option_map (λ (g : GlyphModel). character_cell g c.args.column)) c.in_err-glyph.ensures)))
    ∙ sym (c.in_ok-below.ensures.value (character_leaf c.args.font.now c.args.column))

pub returns-then-is_over : goal.returns-then-is_over
returns-then-is_over c = λ index.
    let cell = option_map (λ (g : GlyphModel). character_cell g c.args.column) (glyph_of c.args.font.now c.in_ok-below.below.number) in
    ap Some c.character_cell.ensures ∙ ap (option_map (λ (g : GlyphModel). character_cell g c.args.column)) c.in_ok-glyph.ensures
    ∙ sym (c.if-is_over.ensures cell) ∙ sym (c.in_ok-below.ensures.value (character_leaf c.args.font.now c.args.column))

pub returns-else-is_over : goal.returns-else-is_over
returns-else-is_over c = λ index.
    let cell = option_map (λ (g : GlyphModel). character_cell g c.args.column) (glyph_of c.args.font.now c.in_ok-below.below.number) in
    sym (c.if-is_over.ensures cell) ∙ sym (c.in_ok-below.ensures.value (character_leaf c.args.font.now c.args.column))
