use Rattle.std.proofs.Common.{rules, ◌≡◌, ◌∙◌, ◌+◌, ◌-◌, ◌≤◌, ◌&&◌, Bool, List, ℕ, length, take, drop, sym, ap, subst, arith}
use Rattle.std.specs.Prelude.{vec_capacity, nat_le}
use Rattle.std.specs.Vec.{with_items}
use Rattle.std.proofs.lemmas.List.{length-map, with_items_is, places}
use borrow.Rule.Slice.PartMut.{put_mid}
use Rattle.dms_face_font.specs.Glyph.{is_bit}
use Rattle.dms_face_pages.specs.Masks.{mask_of, eight_masked}
use Rattle.dms_face_pages.specs.Styled.{StyledCells, style, AreStyled, IsLitStyle, Lights}
use Rattle.dms_face_pages.proofs.StyleLaws.{with_numbers}
use Rattle.dms_face_pages.proofs.MaskLaws.{written, length_written, all_written, lights_where, styled_where}
use Rattle.dms_face_pages.proofs.cells.Cells.light_eight.Goals as goal

pub invariant_of-self : goal.invariant_of-self
invariant_of-self c =
    let styles = c.self.inside.styles.items in
    let numbers = c.self.inside.numbers.items in
    let first = c.args.first in
    let octet = c.args.octet in
    let number = c.args.number in
    let inside : first + 8 ≤ length numbers = omega (arith, c.requires.inside, ap (λ (cells : StyledCells). length cells.cells) c.self.view_is, length-map numbers (style styles)) in
    let own : IsLitStyle styles number = subst (λ (now : StyledCells). IsLitStyle now.styles number) (sym c.self.view_is) c.requires.number in
    let eight : c.write_eight.new.cells ≡ eight_masked (take (first + 8 - first) (drop first numbers)) (mask_of octet) number =
    c.write_eight.ensures ∙ c.eight_masked-lit.ensures
    ∙ ap (λ xs. eight_masked (take (first + 8 - first) (drop first xs)) c.mask_of.result number) c.deref.ensures.value
    ∙ ap (λ mask. eight_masked (take (first + 8 - first) (drop first numbers)) mask number) c.mask_of.ensures in
    let all : put_mid first (first + 8 - first) c.deref_mut.result.now c.write_eight.new.cells ≡ written first numbers octet number =
    ap (λ xs. put_mid first (first + 8 - first) xs c.write_eight.new.cells) c.deref_mut.ensures.value ∙ ap (put_mid first (first + 8 - first) numbers) eight in
    let whole = with_items_is c.self.inside.numbers (put_mid first (first + 8 - first) c.deref_mut.result.now c.write_eight.new.cells) (search (rules, places)) ∙ all in
    subst (AreStyled styles) (sym whole)
    (styled_where (λ k. nat_le first k && is_bit octet (k - first)) styles numbers (written first numbers octet number) number c.self.invariant own
    (length_written first numbers octet number inside) (all_written first numbers octet number inside (omega arith) (omega arith)))

pub returns : goal.returns
returns c =
    let styles = c.self.inside.styles.items in
    let memory = vec_capacity c.self.inside.styles in
    let numbers = c.self.inside.numbers.items in
    let first = c.args.first in
    let octet = c.args.octet in
    let number = c.args.number in
    let inside : first + 8 ≤ length numbers = omega (arith, c.requires.inside, ap (λ (cells : StyledCells). length cells.cells) c.self.view_is, length-map numbers (style styles)) in
    let own : IsLitStyle styles number = subst (λ (now : StyledCells). IsLitStyle now.styles number) (sym c.self.view_is) c.requires.number in
    let eight : c.write_eight.new.cells ≡ eight_masked (take (first + 8 - first) (drop first numbers)) (mask_of octet) number =
    c.write_eight.ensures ∙ c.eight_masked-lit.ensures
    ∙ ap (λ xs. eight_masked (take (first + 8 - first) (drop first xs)) c.mask_of.result number) c.deref.ensures.value
    ∙ ap (λ mask. eight_masked (take (first + 8 - first) (drop first numbers)) mask number) c.mask_of.ensures in
    let all : put_mid first (first + 8 - first) c.deref_mut.result.now c.write_eight.new.cells ≡ written first numbers octet number =
    ap (λ xs. put_mid first (first + 8 - first) xs c.write_eight.new.cells) c.deref_mut.ensures.value ∙ ap (put_mid first (first + 8 - first) numbers) eight in
    let whole = with_items_is c.self.inside.numbers (put_mid first (first + 8 - first) c.deref_mut.result.now c.write_eight.new.cells) (search (rules, places)) ∙ all in
    let on : ℕ → Bool = λ k. nat_le first k && is_bit octet (k - first) in
    subst (λ (now : StyledCells). Lights on (style now.styles number) now
    (with_numbers styles memory (with_items c.self.inside.numbers (put_mid first (first + 8 - first) c.deref_mut.result.now c.write_eight.new.cells)).items)) c.self.view_is
    (subst (λ (new : List ℕ). Lights on (style styles number) (with_numbers styles memory numbers) (with_numbers styles memory new)) (sym whole)
    (lights_where on styles memory numbers (written first numbers octet number) number c.self.invariant own
    (length_written first numbers octet number inside) (all_written first numbers octet number inside (omega arith) (omega arith))))
