use Rattle.std.proofs.Common.{rules}
use Rattle.dms_wire.proofs.UsualMessages.{usual_is, usual_fewer}
use Rattle.dms_wire.proofs.usual.read_usual.Goals as goal

pub returns-clause-found : goal.returns-clause-found
returns-clause-found c =
    let read = usual_is c.args.octets.now _ _ _ _ _ _ _ _ _ _ _ c.in_ok-members.ensures.parts c.in_ok-members.ensures.short
    c.in_ok-community.ensures.parts c.in_ok-community.ensures.short c.in_ok-tag.ensures.parts c.in_ok-tag.ensures.short c.in_ok-kind.ensures
    (c.in_ok-request.ensures.found _) c.in_ok-status.ensures.parts c.in_ok-status.ensures.status c.in_ok-status.ensures.index c.in_ok-status.ensures.short in
    search (rules, read)

pub returns-clause-fewer : goal.returns-clause-fewer
returns-clause-fewer c =
    usual_fewer c.args.octets.now _ _ _ _ _ _ _ _ _ c.in_ok-members.ensures.parts c.in_ok-community.ensures.parts c.in_ok-tag.ensures.parts
    c.in_ok-request.ensures.fewer c.in_ok-status.ensures.parts
