use Rattle.std.proofs.Common.{arith}
use Rattle.hex.specs.Hex.{encode_lower, lower_digits}
use Rattle.hex.proofs.HexLemmas.{length-encode_with}
use Rattle.dms_text_filling.proofs.Laid.{laid_beyond}
use Rattle.dms_text_filling.proofs.filling.put_digits.Goals as goal

pub returns-then-place-buffer-clause-octets : goal.returns-then-place-buffer-clause-octets
returns-then-place-buffer-clause-octets c = record {
  place = omega (arith, length-encode_with lower_digits c.args.octets.now, c.saturating_mul.ensures, c.saturating_add.ensures);
  buffer = laid_beyond c.args.place (encode_lower c.args.octets.now) c.args.buffer.now (omega (arith, c.if-place-buffer.true));
  reach = omega arith;
}
