use Rattle.std.proofs.Common.{◌≡◌, ℕ, ◌+◌, ◌-◌, ◌*◌, ◌^◌, ◌%◌, ◌<◌, ◌++◌, length, get_or, refl, sym, ap, subst, ◌∙◌, arith}
use Rattle.std.proofs.lemmas.Nat.{shl_whole}
use Rattle.dms_face_font.specs.Glyph.{octet_bits, row_bits, row_number}
use Rattle.dms_face_font.proofs.RowOctets.{reversed_is}
use Rattle.dms_face_font.proofs.HeldLaws.{octet_held, octet_small, bits_of_first, digit_small}
use Rattle.dms_face_font.proofs.glyph.hold_octet.Goals as goal

pub returns : goal.returns
returns c =
    let octets = c.args.bits.now.octets.now in
    let count = c.args.bits.now.count in
    let held = c.args.bits.now.held in
    let octet : ℕ = get_or octets 0 0 in
    let digit : c.from-2.result ≡ row_number (octet_bits octet) = c.from-2.ensures ∙ reversed_is octet c.from.result (omega arith) c.from.ensures in
    let small : c.from-2.result < 2 ^ 8 = subst (λ n. n < 2 ^ 8) (sym digit) (digit_small octet) in
    let sum : held + c.from-2.result * 2 ^ count % 2 ^ 64 ≡ held + c.from-2.result * 2 ^ count =
    ap (λ n. held + n) (shl_whole c.from-2.result 8 count 64 small (omega (arith, c.requires.few))) in
    record {
      left = octet_held count held c.from-2.result octet (held + c.from-2.result * 2 ^ count % 2 ^ 64) _ c.requires.held.small digit sum
          ∙ ap (λ bits. row_bits count held ++ bits) (bits_of_first octets (length octets - 1) c.requires.some refl);
      held = record {
        few = omega (arith, c.requires.few);
        small = octet_small count held c.from-2.result octet (held + c.from-2.result * 2 ^ count % 2 ^ 64) c.requires.held.small digit sum;
      };
      more = refl;
    }
