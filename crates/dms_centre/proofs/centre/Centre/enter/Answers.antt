use Rattle.std.proofs.Common.{subst, sym}
use Rattle.dms_centre.specs.Room.{CentreModel}
use Rattle.dms_centre.proofs.Rising.{below_after}
use Rattle.dms_centre.proofs.Restored.{EntryTaken, entry_taken, entered_again}
use Rattle.dms_centre.proofs.centre.Centre.enter.Goals as goal

pub enter-requires-clause-below : goal.enter-requires-clause-below
enter-requires-clause-below c =
    let taken = subst (λ (m : CentreModel). EntryTaken m.state c.args.number c.args.outcome) (sym c.self.view_is)
    (entry_taken c.args.self.now.state c.args.number c.args.outcome c.requires.taken) in
    below_after 0 _ c.args.number _ c.self.invariant.rise taken.after

pub invariant_of-self : goal.invariant_of-self
invariant_of-self c =
    let taken = subst (λ (m : CentreModel). EntryTaken m.state c.args.number c.args.outcome) (sym c.self.view_is)
    (entry_taken c.args.self.now.state c.args.number c.args.outcome c.requires.taken) in
    entered_again _ (record { number = c.args.number; code = c.args.code; outcome = c.args.outcome }) _ c.self.invariant taken c.enter.ensures
