use Rattle.std.proofs.Common.{[], arith, append_assoc}
use Rattle.dms_wire.specs.View.{message_around}
use Rattle.dms_wire.proofs.LongPrefixes.{long_prefix}
use Rattle.dms_wire.proofs.message.put_long_prefix.Goals as goal

pub returns : goal.returns
returns c =
    rw (long_prefix (message_around c.args.header.now []) c.args.size c.args.pdu c.args.content c.requires.pdu c.requires.content c.requires.large
    (omega (arith, c.requires.room)) c.requires.short)
    (grind (arith, append_assoc))
