use Rattle.std.proofs.Common.{arith}
use Rattle.dms_face_times.proofs.turns.+round.Goals as goal

pub overflow_add-result : goal.overflow_add-result
overflow_add-result t c = omega (arith, c.span.ensures.most, c.round.ensures.most, c.requires)
