use Rattle.std.proofs.Common.{◌≡◌, ◌<◌, length, false, sym, ap, subst, ◌∙◌, arith}
use Rattle.dms_face_font.specs.Glyph.{GlyphModel}
use Rattle.dms_face_font.specs.Font.{FontModel, has_glyph}
use Rattle.dms_face_font.specs.Widths.{IsKept}
use Rattle.dms_face_font.proofs.Limits.{with_one_more}
use Rattle.dms_face_font.proofs.font.Font.add_glyph.Goals as goal

pub invariant_of-self : goal.invariant_of-self
invariant_of-self c =
    let font : FontModel = record {
      number = c.self.inside.number;
      height = c.self.inside.height;
      character_spacing = c.self.inside.character_spacing;
      line_spacing = c.self.inside.line_spacing;
      version = c.self.inside.version;
      glyphs = c.self.inside.glyphs.items;
    } in
    let added = c.new-glyph.result in
    let said = c.in_ok-said in
    let is = ap (λ (g : GlyphModel). g.character) c.new-glyph.ensures.value in
    let none : has_glyph font.glyphs said.said.character ≡ false =
    ap (λ (f : FontModel). has_glyph f.glyphs said.said.character) c.self.view_is ∙ sym c.has.ensures ∙ c.if-has.false in
    let new : has_glyph font.glyphs added.character ≡ false = ap (has_glyph font.glyphs) is ∙ none in
    let room : length font.glyphs < 255 = omega (arith, c.len.ensures, c.if-len-ge-MAX_GLYPHS.false) in
    subst (λ glyphs. IsKept (record font { glyphs = glyphs }) c.set_width.new.widths) (sym c.in-Ok.ensures.items) (record {
      limits = with_one_more font added c.self.invariant.limits c.new-glyph.ensures.limits new room;
      plain = c.set_width.ensures font.glyphs added c.self.invariant.plain is (ap (λ (g : GlyphModel). g.width) c.new-glyph.ensures.value) none;
    })
