use Rattle.std.proofs.Common.{refl}
use Rattle.hex.specs.Hex.{decode_of}
use Rattle.signtool_acts.proofs.Calls.{no_digits}
use Rattle.signtool_acts.proofs.act.print_answer.Goals as goal

pub returns-in-Err : goal.returns-in-Err
returns-in-Err g c =
    no_digits c.args.sign (g.R.Read.remaining c.args.reader.now) _ (decode_of c.args.digits.now) c.in-Err.fault c.in-Err.ensures.fault
    (c.print_hex_fault.ensures.digits refl) (λ memory it. c.print_hex_fault.ensures.memory refl memory it)
