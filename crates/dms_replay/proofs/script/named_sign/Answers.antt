use Rattle.std.proofs.Common.{inl, inr}
use Rattle.dms_replay.proofs.ScriptRead.{sign_is_named, none_is_named}
use Rattle.dms_replay.proofs.script.named_sign.Goals as goal

pub returns-in-Ok-clause-read : goal.returns-in-Ok-clause-read
returns-in-Ok-clause-read c = sign_is_named c.args.octets.now c.of.result _ _ c.of.ensures c.in-Ok.ensures.read

pub returns-in-Err-Line-clause-line : goal.returns-in-Err-Line-clause-line
returns-in-Err-Line-clause-line c = elim c.in-Err-Line.ensures.line [
  | inl memory ↦ absurd (cc)
  | inr bad ↦ inr (tt, none_is_named c.args.octets.now c.of.result c.of.ensures c.in_default.ensures.other bad)
]
