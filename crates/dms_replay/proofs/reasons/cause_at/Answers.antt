use Rattle.std.proofs.Common.{sym, ◌∙◌}
use Rattle.dms_replay.proofs.ScriptCauses.{event_cause_said, no_event_line, names_none, no_sign_line}
use Rattle.dms_replay.proofs.reasons.cause_at.Goals as goal

pub returns-in_default-clause-cause : goal.returns-in_default-clause-cause
returns-in_default-clause-cause c =
    event_cause_said c.args.octets.now c.in_default.field-0.1 c.in_default.field-0.0 c.args.number c.in_ok-found.found c.in_default.ensures.read c.in_ok-found.ensures

pub returns-in_default-clause-told : goal.returns-in_default-clause-told
returns-in_default-clause-told c =
    no_event_line c.args.octets.now c.in_default.field-0.1 c.in_default.field-0.0 c.args.number c.in_ok-found.found c.in_default.ensures.read
    c.in_default.ensures.last c.in_ok-found.ensures

pub returns-in-Some : goal.returns-in-Some
returns-in-Some c = record {
  cause = (
    names_none c.args.octets.now c.in-Err.fault c.in_default-fault.not-Memory c.in-Err.ensures.line,
    sym c.in_ok-cause-in_default-fault.ensures.cause ∙ c.in-Some.is,
  );
  told = tt;
}

pub returns-in-None : goal.returns-in-None
returns-in-None c = record {
  cause = tt;
  told = no_sign_line c.args.octets.now c.in-Err.fault c.in_ok-cause-in_default-fault.field-0 c.args.number c.in_default-fault.not-Memory c.in-Err.ensures.line
      c.in_ok-cause-in_default-fault.ensures.told c.in-None.is;
}
