use Rattle.signtool_acts.proofs.Carried.{same_line}
use Rattle.signtool_acts.proofs.inputs.replayed_text.Goals as goal

pub returns-in-Err-clause-line : goal.returns-in-Err-clause-line
returns-in-Err-clause-line g c number is =
    (c.in-Err.ensures.line number (same_line c.script_refusal.result.fault c.in-Err.fault number c.script_refusal.ensures.fault is)).1

pub returns-in-Err-clause-number : goal.returns-in-Err-clause-number
returns-in-Err-clause-number g c number is =
    c.in-Err.ensures.number number (same_line c.script_refusal.result.fault c.in-Err.fault number c.script_refusal.ensures.fault is)
