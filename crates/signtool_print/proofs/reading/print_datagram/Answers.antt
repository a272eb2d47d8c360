use Rattle.std.proofs.Common.{ap, sym, ◌∙◌}
use Rattle.dms_wire.specs.Reading.{message_at}
use Rattle.signtool_print.proofs.reading.print_datagram.Goals as goal

pub returns-in-Ok : goal.returns-in-Ok
returns-in-Ok g c lines wanted same = c.print_message.ensures lines (message_at wanted) (sym c.in-Ok.ensures.exact ∙ ap message_at same)
