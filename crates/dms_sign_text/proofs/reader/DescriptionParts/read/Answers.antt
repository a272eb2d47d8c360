use Rattle.std.proofs.Common.{rules, ◌∙◌}
use Rattle.std.proofs.lemmas.Option.{MatchOption-at_some}
use Rattle.dms_sign_text.specs.Views.{head_seen}
use Rattle.dms_sign_text.proofs.LastLines.{leaves_after}
use Rattle.dms_sign_text.proofs.Refused.{misfit_refused, ReadTo, read_to, stop_refused}
use Rattle.dms_sign_text.proofs.reader.DescriptionParts.read.Goals as goal

pub returns-in_err-head-clause-number : goal.returns-in_err-head-clause-number
returns-in_err-head-clause-number c =
    let bad = misfit_refused c.args.lines c.in_err-head.field-0.0 c.in_err-head.ensures.none c.in_err-head.ensures.misfit in search (rules, bad)

pub returns-in_err-lines-clause-number : goal.returns-in_err-lines-clause-number
returns-in_err-lines-clause-number c =
    let to : ReadTo c.args.lines c.in-Ok-fonts.upcoming =
    read_to c.args.lines c.in_ok-head.lines (head_seen c.in_ok-head.head) c.of.result c.in-Ok.upcoming c.in-Ok-fonts.upcoming c.in_ok-head.ensures.found c.in_ok-head.ensures.forms c.of.ensures
    c.in-Ok.ensures.last c.in-Ok.ensures.rest c.in-Ok-fonts.ensures.last c.in-Ok-fonts.ensures.rest in
    let bad = stop_refused c.after_end.result c.in_err-lines.field-0.0 c.number-end.result _ c.in_err-lines.ensures.value (c.number-end.ensures ∙ to.number) in search (rules, bad)

pub returns-clause-last : goal.returns-clause-last
returns-clause-last c =
    let to : ReadTo c.args.lines c.in-Ok-fonts.upcoming =
    read_to c.args.lines c.in_ok-head.lines (head_seen c.in_ok-head.head) c.of.result c.in-Ok.upcoming c.in-Ok-fonts.upcoming c.in_ok-head.ensures.found c.in_ok-head.ensures.forms c.of.ensures
    c.in-Ok.ensures.last c.in-Ok.ensures.rest c.in-Ok-fonts.ensures.last c.in-Ok-fonts.ensures.rest in
    leaves_after _ _ _ to.leaves (MatchOption-at_some _ _ _ c.in_ok-lines.ensures.ok_part c.after_end.ensures.rest)

pub returns-clause-end : goal.returns-clause-end
returns-clause-end c =
    let to : ReadTo c.args.lines c.in-Ok-fonts.upcoming =
    read_to c.args.lines c.in_ok-head.lines (head_seen c.in_ok-head.head) c.of.result c.in-Ok.upcoming c.in-Ok-fonts.upcoming c.in_ok-head.ensures.found c.in_ok-head.ensures.forms c.of.ensures
    c.in-Ok.ensures.last c.in-Ok.ensures.rest c.in-Ok-fonts.ensures.last c.in-Ok-fonts.ensures.rest in
    c.number-end.ensures ∙ to.number
