use Rattle.std.proofs.Common.{ap, ◌∙◌}
use Rattle.std.proofs.lemmas.Bool.{false≢true}
use Rattle.dms_centre.specs.CodeView.{settings_model}
use Rattle.dms_centre.specs.State.{start}
use Rattle.dms_centre_restored.proofs.StatesRead.{none_taken, none_set, first_taken}
use Rattle.dms_centre_restored.proofs.StatesStop.{wrong_taken}
use Rattle.dms_centre_restored.proofs.restoring.restored.Goals as goal

pub returns-in-Err-clause-none : goal.returns-in-Err-clause-none
returns-in-Err-clause-none c =
    none_set (settings_model c.args.settings) c.args.text.now c.in-Err.fault (λ fits. absurd (false≢true (c.in-Err.ensures.community.1 fits)))

pub returns-in-Err-take_up-clause-none : goal.returns-in-Err-take_up-clause-none
returns-in-Err-take_up-clause-none c =
    let settings = settings_model c.args.settings in
    none_taken settings c.args.text.now c.in-Ok.centre.state c.in-Err-take_up.unread c.refusal_of.result
    (c.in-Ok.ensures.made ∙ ap (λ first. start settings first) c.first_number.ensures) c.in-Err-take_up.ensures.read c.refusal_of.ensures.said

pub returns-in-Err-take_up-clause-first : goal.returns-in-Err-take_up-clause-first
returns-in-Err-take_up-clause-first c =
    let settings = settings_model c.args.settings in
    first_taken settings c.args.text.now c.in-Ok.centre.state c.in-Err-take_up.unread c.refusal_of.result
    (c.in-Ok.ensures.made ∙ ap (λ first. start settings first) c.first_number.ensures) c.in-Err-take_up.ensures.read c.refusal_of.ensures.told

pub returns-in-Err-take_up-clause-wrong : goal.returns-in-Err-take_up-clause-wrong
returns-in-Err-take_up-clause-wrong c =
    let settings = settings_model c.args.settings in
    let begins = c.in-Ok.ensures.made ∙ ap (λ first. start settings first) c.first_number.ensures in
    wrong_taken settings c.args.text.now c.in-Ok.centre.state c.in-Err-take_up.unread c.refusal_of.result begins c.centres_are_kept.ensures c.in-Err-take_up.ensures.read c.refusal_of.ensures.told
