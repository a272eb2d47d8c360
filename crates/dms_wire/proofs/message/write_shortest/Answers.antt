use Rattle.dms_wire.proofs.message.write_shortest.Goals as goal

pub returns : goal.returns
returns c = c.write_around.ensures c.args.binds c.fill.ensures
