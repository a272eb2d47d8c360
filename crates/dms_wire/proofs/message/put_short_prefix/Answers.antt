use Rattle.std.proofs.Common.{[], arith, append_assoc, length-append}
use Rattle.dms_wire.specs.View.{message_around}
use Rattle.dms_wire.proofs.ShortPrefixes.{short_prefix, short_parts}
use Rattle.dms_wire.proofs.message.put_short_prefix.Goals as goal

pub overflow_cast-community : goal.overflow_cast-community
overflow_cast-community c =
    omega (arith, short_parts (message_around c.args.header.now []) c.args.size c.args.pdu c.args.content c.requires.pdu c.requires.content c.requires.short)

pub put_content-requires-2 : goal.put_content-requires-2
put_content-requires-2 c =
    let parts = short_parts (message_around c.args.header.now []) c.args.size c.args.pdu c.args.content c.requires.pdu c.requires.content c.requires.short in
    grind (arith, length-append)

pub put_short_pdu_prefix-requires : goal.put_short_pdu_prefix-requires
put_short_pdu_prefix-requires c =
    let parts = short_parts (message_around c.args.header.now []) c.args.size c.args.pdu c.args.content c.requires.pdu c.requires.content c.requires.short in
    grind (arith, length-append)

pub returns : goal.returns
returns c =
    rw (short_prefix (message_around c.args.header.now []) c.args.size c.args.pdu c.args.content c.requires.pdu c.requires.content c.requires.short)
    (grind (arith, append_assoc))
