use Rattle.signtool_acts.proofs.Carried.{no_script, refused_in}
use Rattle.signtool_acts.proofs.inputs.replayed.Goals as goal

pub returns-in-Ok-clause-line : goal.returns-in-Ok-clause-line
returns-in-Ok-clause-line g c number is =
    no_script c.as_slice.result.now c.in-Ok.octets.items (g.R.Source.remaining c.args.reader.now) c.as_slice.ensures.value c.in-Ok.ensures.short
    c.in-Ok.ensures.whole (c.replayed_text.ensures.line number is)

pub returns-in-Ok-clause-number : goal.returns-in-Ok-clause-number
returns-in-Ok-clause-number g c number is =
    refused_in c.as_slice.result.now c.in-Ok.octets.items (g.R.Source.remaining c.args.reader.now) number c.as_slice.ensures.value
    c.in-Ok.ensures.whole (c.replayed_text.ensures.number number is)
