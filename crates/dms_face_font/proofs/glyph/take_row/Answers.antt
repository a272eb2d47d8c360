use Rattle.std.proofs.Common.{◌≡◌, ◌*◌, ◌^◌, ◌%◌, take, drop, ap, sym, ◌∙◌, arith}
use Rattle.std.proofs.lemmas.Nat.{one_shl, pow_pos}
use Rattle.dms_face_font.specs.Glyph.{row_number, bits_of}
use Rattle.dms_face_font.proofs.HeldLaws.{first_taken, first_dropped, left_small}
use Rattle.dms_face_font.proofs.glyph.take_row.Goals as goal

pub nonzero_rem-row : goal.nonzero_rem-row
nonzero_rem-row c = omega (arith, one_shl c.args.width 64 (omega (arith, c.requires.width)), pow_pos c.args.width)

pub returns-clause-row : goal.returns-clause-row
returns-clause-row c =
    let bits = c.hold.new.bits in
    let one : 1 * 2 ^ c.args.width % 2 ^ 64 ≡ 2 ^ c.args.width = one_shl c.args.width 64 (omega (arith, c.requires.width)) in
    ap (λ p. bits.held % p) one
    ∙ sym (first_taken bits.count bits.held c.args.width (bits_of bits.octets.now) c.hold.ensures.held.small c.hold.ensures.enough)
    ∙ ap (λ left. row_number (take c.args.width left)) c.hold.ensures.left

pub returns-clause-left : goal.returns-clause-left
returns-clause-left c =
    let bits = c.hold.new.bits in
    first_dropped bits.count bits.held c.args.width (bits_of bits.octets.now) c.hold.ensures.held.small c.hold.ensures.enough
    ∙ ap (drop c.args.width) c.hold.ensures.left

pub returns-clause-held : goal.returns-clause-held
returns-clause-held c =
    let bits = c.hold.new.bits in
    record {
      few = omega (arith, c.hold.ensures.held.few);
      small = left_small bits.count bits.held c.args.width c.hold.ensures.held.small;
    }
