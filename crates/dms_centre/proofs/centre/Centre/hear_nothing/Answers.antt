use Rattle.std.proofs.Common.{refl}
use Rattle.dms_centre.proofs.Fine.{only_last, given_up_idle}
use Rattle.dms_centre.proofs.centre.Centre.hear_nothing.Goals as goal

pub give_up-requires : goal.give_up-requires
give_up-requires c = record { last = only_last _ _ c.self.invariant.waiting }

pub invariant_of-self-else-self-lt-MOST_SENDS : goal.invariant_of-self-else-self-lt-MOST_SENDS
invariant_of-self-else-self-lt-MOST_SENDS c = given_up_idle _ _ _ _ c.self.invariant refl c.give_up.ensures.entries
