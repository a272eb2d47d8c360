use Rattle.std.proofs.Common.{◌≡◌, ◌∙◌, ℕ, List, Option, ap}
use Rattle.dms_face.specs.declared.justification.Part.{Part}
use Rattle.dms_face_font.specs.Font.{FontModel}
use Rattle.dms_face.specs.Layout.{Character, Line}
use Rattle.dms_face.specs.Room.{line_height, greatest}
use Rattle.dms_face_pages.proofs.text_layout.TextLine.of.Goals as goal

abbrev line_of : List Character → Part → FontModel → Option ℕ → Line
line_of characters part font gap = record { characters = characters; part = part; font = font; gap = gap }

pub invariant_of-result : goal.invariant_of-result
invariant_of-result c = record {
  height_is = c.greatest_height-height.ensures c.args.part c.args.gap ∙ ap (λ characters. line_height (line_of characters c.args.part c.args.font.now c.args.gap)) c.as_slice.ensures.value;
  spacing_is =
      c.greatest_spacing-spacing.ensures c.args.part c.args.gap
      ∙ ap (λ characters. greatest (λ (font : FontModel). font.line_spacing) (line_of characters c.args.part c.args.font.now c.args.gap)) c.as_slice-2.ensures.value;
}
