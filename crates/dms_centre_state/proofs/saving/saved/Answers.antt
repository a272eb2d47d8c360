use Rattle.std.proofs.Common.{arith}
use Rattle.dms_centre_state.specs.CentreText.{text_of_state}
use Rattle.dms_text_filling.proofs.Whole.{whole_text}
use Rattle.dms_centre_state.proofs.saving.saved.Goals as goal

pub returns : goal.returns
returns c =
    whole_text (text_of_state c.args.centre.now.state) c.as_mut_slice.result.now c.put_saved.new.buffer c.in_ok-text.text.items c.put_saved-size.result
    c.in_ok-text.text.len c.put_saved-size.ensures.size c.if-size.false c.put_saved.ensures.text
    (omega (arith, c.as_mut_slice.ensures.len, c.in_ok-text.ensures.len)) c.in_ok-text.ensures.len
