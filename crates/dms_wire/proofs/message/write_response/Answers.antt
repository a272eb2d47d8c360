use Rattle.std.proofs.Common.{◌∙◌, ap, subst}
use Rattle.dms_wire.specs.Canonical.{canonical}
use Rattle.dms_wire.specs.View.{message_around}
use Rattle.dms_wire.specs.Written.{IsWritten}
use Rattle.dms_wire.proofs.message.write_response.Goals as goal

pub returns-in-Some : goal.returns-in-Some
returns-in-Some c =
    subst (λ m. IsWritten c.write_octets.result c.write_octets.new.out.items (canonical m)) (c.response-header.ensures c.args.message.now.binds)
    (c.write_octets.ensures c.args.message.now.binds c.in-Some.ensures.same)

pub returns-in-None : goal.returns-in-None
returns-in-None c =
    subst (λ m. IsWritten c.write_shortest.result c.write_shortest.new.out.items (canonical m))
    (ap (message_around c.response-header.result) c.again.ensures ∙ c.response-header.ensures c.args.message.now.binds) c.write_shortest.ensures
