use Rattle.std.proofs.Common.{◌+◌, ◌-◌, refl, arith}
use Rattle.dms_text_filling.proofs.Digits.{sixteen_put}
use Rattle.dms_text_filling.proofs.filling.put_eight.Goals as goal

pub returns-then-buffer-place-ge16-clause-octets : goal.returns-then-buffer-place-ge16-clause-octets
returns-then-buffer-place-ge16-clause-octets c =
    sixteen_put c.args.place (c.args.place + 16 - c.args.place) (c.args.place + 16) c.args.octets c.eight_digits-digits.result c.copy_from_slice.new.self c.args.buffer.now
    c.eight_digits-digits.ensures c.copy_from_slice.ensures.after (omega arith) (omega arith) (omega arith) refl (omega arith)
