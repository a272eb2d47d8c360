use Rattle.std.proofs.Common.{[]}
use Rattle.dms_wire.specs.View.{message_around}
use Rattle.dms_wire.proofs.ShortPrefixes.{status_are}
use Rattle.dms_wire.proofs.message.octets_of_status.Goals as goal

pub returns : goal.returns
returns c = λ rest.
    let status = c.in_ok-status.ensures in
    let index = c.in_ok-index.ensures in
    status_are (message_around c.args.header.now []) _ _ rest status.0 status.1 index.0 index.1
