use Rattle.std.proofs.Common.{Some, None, inr, refl}
use Rattle.dms_sign_text.specs.Setups.{octets_left}
use Rattle.dms_sign_text.proofs.SetupLaws.{made_of_parts, is_made, is_refused, is_none}
use Rattle.dms_sign_text.proofs.reader.sign_of_lines.Goals as goal

pub returns-in-Err-clause-line : goal.returns-in-Err-clause-line
returns-in-Err-clause-line c = is_none (octets_left c.args.lines) c.in-Err.fault c.in-Err.ensures.none

pub returns-in-Ok-Some-clause-read : goal.returns-in-Ok-Some-clause-read
returns-in-Ok-Some-clause-read c =
    is_made (octets_left c.args.lines) (octets_left c.in-Ok.found.1) c.in-Ok.found.0 c.in-Ok-Some.sign (record { sign = c.in-Ok-Some.sign; first = c.in-Ok.found.0.head.first })
    c.in-Ok.ensures.found (made_of_parts c.in-Ok.found.0 c.as_slice.result.now c.in-Ok-Some.field-0 (Some c.in-Ok-Some.sign) c.as_slice.ensures.value c.in-Ok-Some.field-0-is c.in-Ok-Some.ensures)
    refl refl

pub returns-in-Ok-None-clause-line : goal.returns-in-Ok-None-clause-line
returns-in-Ok-None-clause-line c =
    inr (is_refused (octets_left c.args.lines) (octets_left c.in-Ok.found.1) c.in-Ok.found.0 c.in-Ok.ensures.found
    (made_of_parts c.in-Ok.found.0 c.as_slice.result.now c.in-Ok-None.field-0 None c.as_slice.ensures.value c.in-Ok-None.field-0-is c.in-Ok-None.ensures))
