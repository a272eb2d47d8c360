use Rattle.dms_sign.proofs.Assigned.{asked_either}
use Rattle.dms_sign.proofs.sign.Sign.ask_alone.Goals as goal

pub invariant_of-self : goal.invariant_of-self
invariant_of-self c =
    asked_either c.self.inside c.ask.new.self c.args.id c.args.ask c.ask.result c.self.invariant c.ask.ensures.ok c.ask.ensures.unchanged
