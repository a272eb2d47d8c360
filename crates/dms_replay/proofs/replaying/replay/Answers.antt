use Rattle.dms_replay.proofs.ScriptRead.{no_room, no_script, refused_whole, same_fault}
use Rattle.dms_replay.proofs.replaying.replay.Goals as goal

pub returns-in-Err-clause-line : goal.returns-in-Err-clause-line
returns-in-Err-clause-line c d number is =
    no_script d.as_slice.result.now d.in_ok-octets.octets.items (c.R.Source.remaining d.args.reader.now) d.in-Err.fault number d.as_slice.ensures.value d.in_ok-octets.ensures.short d.in_ok-octets.ensures.whole
    d.in-Err.ensures.line (same_fault _ _ is)

pub returns-in-Err-clause-number : goal.returns-in-Err-clause-number
returns-in-Err-clause-number c d number is =
    refused_whole d.as_slice.result.now d.in_ok-octets.octets.items (c.R.Source.remaining d.args.reader.now) d.in-Err.fault number
    d.as_slice.ensures.value d.in_ok-octets.ensures.whole d.in-Err.ensures.number (same_fault _ _ is)

pub returns-clause-no_room : goal.returns-clause-no_room
returns-clause-no_room c d = λ is_write.
    no_room d.as_slice.result.now d.in_ok-octets.octets.items d.as_slice-2.result.now d.in-Ok.report.items (c.R.Source.remaining d.args.reader.now)
    (c.W.Sink.room d.args.writer.now) _ _ _ d.as_slice.ensures.value d.in_ok-octets.ensures.whole d.as_slice-2.ensures.value d.in-Ok.ensures.report
    d.in-Err-write_whole.is d.write_whole.ensures.room
