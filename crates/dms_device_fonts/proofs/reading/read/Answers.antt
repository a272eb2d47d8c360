use Rattle.std.proofs.Common.{ap, sym, ◌∙◌}
use Rattle.std.specs.Prelude.{option_map}
use Rattle.dms_wire.specs.View.{object_value}
use Rattle.dms_device_fonts.specs.Tree.{tree_value}
use Rattle.dms_device_fonts.specs.Fonts.{font_object, object_of}
use Rattle.dms_device_fonts.proofs.reading.read.Goals as goal

pub returns-in_err-below : goal.returns-in_err-below
returns-in_err-below c = ap (option_map object_value) c.from_residual.ensures ∙ sym (c.in_err-below.ensures.value (font_object c.args.fonts.now))

pub returns-in-Some : goal.returns-in-Some
returns-in-Some c =
    let below = c.in_ok-below.below in
    c.read_table.ensures ∙ ap (λ t. tree_value (object_of c.args.fonts.now below.number t) below.rest) c.in-Some.ensures
    ∙ sym (c.in_ok-below.ensures.value (font_object c.args.fonts.now))

pub returns-in-None : goal.returns-in-None
returns-in-None c =
    let below = c.in_ok-below.below in
    c.read_scalar.ensures ∙ ap (λ t. tree_value (object_of c.args.fonts.now below.number t) below.rest) c.in-None.ensures
    ∙ sym (c.in_ok-below.ensures.value (font_object c.args.fonts.now))
