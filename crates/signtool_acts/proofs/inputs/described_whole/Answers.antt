use Rattle.dms_sign_text.proofs.TextsDescribed.{not_described}
use Rattle.signtool_acts.proofs.inputs.described_whole.Goals as goal

pub returns-in-Ok-clause-line : goal.returns-in-Ok-clause-line
returns-in-Ok-clause-line g c number is =
    not_described c.as_slice.result.now c.in-Ok.octets.items (g.R.Source.remaining c.args.reader.now) c.as_slice.ensures.value c.in-Ok.ensures.short
    c.in-Ok.ensures.whole (c.described_text.ensures.line number is)
