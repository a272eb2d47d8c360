use Rattle.std.proofs.Common.{ap, ◌∙◌, None}
use Rattle.dms_centre_lines.specs.Answers.{call_answer, after_call}
use Rattle.dms_centre_lines.specs.CallForm.{call_cause}
use Rattle.dms_centre_lines.proofs.CallLaws.{call_only, none_read}
use Rattle.dms_centre_lines.proofs.laws.answers_are_those_of_calls.Goals as goal

pub returns-clause-text : goal.returns-clause-text
returns-clause-text c = λ state line call spelled.
    ap (λ found. call_answer state found (call_cause line)) (call_only state.settings.order line call spelled)

pub returns-clause-after : goal.returns-clause-after
returns-clause-after c = λ state line call spelled. ap (after_call state) (call_only state.settings.order line call spelled)

pub returns-clause-bad_line : goal.returns-clause-bad_line
returns-clause-bad_line c = λ state line cause none is.
    ap (λ found. call_answer state found (call_cause line)) (none_read state.settings.order line none)
    ∙ ap (call_answer state None) is

pub returns-clause-unchanged : goal.returns-clause-unchanged
returns-clause-unchanged c = λ state line none. ap (after_call state) (none_read state.settings.order line none)
