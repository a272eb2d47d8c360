use Rattle.std.proofs.Common.{◌++◌, ap, ◌∙◌, subst}
use Rattle.dms_sign.specs.State.{SignState}
use Rattle.dms_text_streams.specs.Conversation.{ok_line}
use Rattle.dms_sign_lines.specs.SignCall.{save}
use Rattle.dms_sign_restored.specs.Restored.{IsPut}
use Rattle.signtool_acts.proofs.laws.restored_signs_save_their_text.Goals as goal

pub returns : goal.returns
returns c lines it setup text line s spelled made put saves =
    c.answers_are_those_of_calls.ensures.text s line save saves
    ∙ ap (λ t. t ++ ok_line) (c.restored_signs_have_their_text.ensures.put it.config it.table text s spelled.can_be_made
    (subst (λ (before : SignState). IsPut before text s) made.sign put))
