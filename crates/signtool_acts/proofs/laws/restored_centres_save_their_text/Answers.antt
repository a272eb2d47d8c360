use Rattle.std.proofs.Common.{◌++◌, ap, sym, ◌∙◌, subst}
use Rattle.dms_centre_jobs.specs.Job.{SettingsModel}
use Rattle.dms_text_streams.specs.Conversation.{ok_line}
use Rattle.dms_centre_lines.specs.Calls.{save}
use Rattle.dms_centre_lines.specs.SpelledCalls.{SpellsCentreCall}
use Rattle.signtool_acts.proofs.laws.restored_centres_save_their_text.Goals as goal

pub returns : goal.returns
returns c settings text line s restored saves =
    c.answers_are_those_of_calls.ensures.text s line save
    (subst (λ (settings : SettingsModel). SpellsCentreCall settings.order save line) (sym restored.settings) saves)
    ∙ ap (λ t. t ++ ok_line) restored.text
