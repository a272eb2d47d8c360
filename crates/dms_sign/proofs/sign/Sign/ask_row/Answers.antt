use Rattle.std.proofs.Common.{is_some, arith}
use Rattle.dms_sign.proofs.Assigned.{ask_refused, takes_after}
use Rattle.dms_sign.proofs.sign.Sign.ask_row.Goals as goal

pub ask-requires : goal.ask-requires
ask-requires c = grind (arith, is_some, takes_after)

pub returns-else-takes-clause-after : goal.returns-else-takes-clause-after
returns-else-takes-clause-after c = grind (arith, is_some, ask_refused)

pub returns-else-takes-clause-says : goal.returns-else-takes-clause-says
returns-else-takes-clause-says c = grind (arith, is_some, ask_refused)
