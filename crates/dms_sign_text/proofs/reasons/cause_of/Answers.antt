use Rattle.dms_sign_text.specs.Views.{head_seen}
use Rattle.dms_sign_text.proofs.FirstCause.{head_told, body_told_ok, a_sign_ok}
use Rattle.dms_sign_text.proofs.reasons.cause_of.Goals as goal

pub returns-in-Ok-clause-cause : goal.returns-in-Ok-clause-cause
returns-in-Ok-clause-cause c =
    body_told_ok c.body_cause.result c.of.result _ c.in-Ok.lines (head_seen c.in-Ok.head) c.of.ensures c.in-Ok.ensures.found c.in-Ok.ensures.forms c.body_cause.ensures

pub returns-in-Ok-clause-told : goal.returns-in-Ok-clause-told
returns-in-Ok-clause-told c =
    a_sign_ok c.body_cause.result c.of.result _ c.in-Ok.lines (head_seen c.in-Ok.head) c.of.ensures c.in-Ok.ensures.found c.body_cause.ensures

pub returns-in-Err-clause-cause : goal.returns-in-Err-clause-cause
returns-in-Err-clause-cause c = head_told c.of.result _ c.in-Err.fault c.of.ensures c.in-Err.ensures.misfit
