use Rattle.std.proofs.Common.{◌≡◌, Some, sym, subst, ◌∙◌, refl}
use Rattle.std.specs.Prelude.{option_map}
use Rattle.dms_device_fonts.specs.Tree.{tree_first}
use Rattle.dms_device_fonts.specs.Fonts.{font_row}
use Rattle.dms_device_fonts.specs.View.{end_binding}
use Rattle.dms_device_fonts.specs.declared.place.End.TheVariants.{OfFont}
use Rattle.dms_device_fonts.proofs.ends.first_end.Goals as goal

pub returns-in-Fonts : goal.returns-in-Fonts
returns-in-Fonts c = λ column index.
    subst (λ t. option_map (end_binding column index c.args.font.now) (Some OfFont) ≡ tree_first (font_row t column index (Some c.args.font.now))) (sym c.in-Fonts.is) refl

pub returns-in-Characters : goal.returns-in-Characters
returns-in-Characters c = λ column index.
    subst (λ t. option_map (end_binding column index c.args.font.now) c.as_end.result ≡ tree_first (font_row t column index (Some c.args.font.now))) (sym c.in-Characters.is)
    (c.as_end.ensures column index c.args.font.now ∙ c.least_glyph.ensures column)
