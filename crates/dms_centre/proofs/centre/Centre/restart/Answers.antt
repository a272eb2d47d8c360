use Rattle.std.proofs.Common.{refl}
use Rattle.dms_centre.proofs.Fine.{only_last, given_up_again, given_up_idle}
use Rattle.dms_centre.proofs.centre.Centre.restart.Goals as goal

pub give_up-requires : goal.give_up-requires
give_up-requires c = record { last = only_last _ _ c.self.invariant.waiting }

pub invariant_of-self : goal.invariant_of-self
invariant_of-self c = given_up_again _ _ _ c.self.invariant refl c.give_up.ensures.entries

pub invariant_of-self-then-busy : goal.invariant_of-self-then-busy
invariant_of-self-then-busy c = given_up_idle _ _ _ _ c.self.invariant refl c.give_up.ensures.entries

pub invariant_of-self-else-busy : goal.invariant_of-self-else-busy
invariant_of-self-else-busy c = given_up_again _ _ _ c.self.invariant refl c.give_up.ensures.entries
