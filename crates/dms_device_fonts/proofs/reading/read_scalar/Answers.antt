use Rattle.std.proofs.Common.{Some, ap, sym, ◌∙◌}
use Rattle.std.specs.Prelude.{option_map}
use Rattle.dms_wire.specs.View.{object_value}
use Rattle.dms_device_fonts.specs.Tree.{Leaf}
use Rattle.dms_device_fonts.specs.Fonts.{scalar_value}
use Rattle.dms_device_fonts.proofs.reading.read_scalar.Goals as goal

pub returns-in_err-below : goal.returns-in_err-below
returns-in_err-below c =
    ap (option_map object_value) c.from_residual.ensures ∙ sym (c.in_err-below.ensures.value (λ _. Leaf (Some (scalar_value c.args.fonts.now c.args.number))))

pub returns-then-is_over : goal.returns-then-is_over
returns-then-is_over c =
    let value = scalar_value c.args.fonts.now c.args.number in
    ap Some c.scalar_value.ensures ∙ sym (c.if-is_over.ensures (Some value)) ∙ sym (c.in_ok-below.ensures.value (λ _. Leaf (Some value)))

pub returns-else-is_over : goal.returns-else-is_over
returns-else-is_over c =
    let value = scalar_value c.args.fonts.now c.args.number in
    sym (c.if-is_over.ensures (Some value)) ∙ sym (c.in_ok-below.ensures.value (λ _. Leaf (Some value)))
