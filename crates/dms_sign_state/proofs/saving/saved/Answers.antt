use Rattle.std.proofs.Common.{◌∙◌, arith}
use Rattle.dms_sign_state.specs.StateText.{text_of_state}
use Rattle.dms_sign_state.proofs.Filled.{whole_text}
use Rattle.dms_sign_state.proofs.saving.saved.Goals as goal

pub returns : goal.returns
returns c =
    whole_text (text_of_state c.args.sign.now) c.as_mut_slice.result.now c.put_saved.new.buffer c.in_ok-text.text.items c.in_ok-text.text.len
    c.put_saved.ensures.text (omega (arith, c.as_mut_slice.ensures.len, c.in_ok-text.ensures.len, c.put_saved-size.ensures.size))
    (c.in_ok-text.ensures.len ∙ c.put_saved-size.ensures.size)
