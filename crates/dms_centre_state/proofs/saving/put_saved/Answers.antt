use Rattle.std.proofs.Common.{◌≡◌, ◌+◌, length, ap, ◌∙◌, arith}
use Rattle.dms_text_filling.specs.Filling.{counted}
use Rattle.dms_centre_state.specs.CentreText.{text_of_state}
use Rattle.dms_centre_state.proofs.saving.put_saved.Goals as goal

pub returns-clause-size : goal.returns-clause-size
returns-clause-size c =
    let n = length (text_of_state c.args.centre.now.state) in
    let same : 0 + n ≡ n = omega arith in
    c.put_state.ensures.place ∙ ap counted same

pub returns-clause-text : goal.returns-clause-text
returns-clause-text c = c.put_state.ensures.buffer
