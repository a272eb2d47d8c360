use Rattle.dms_text_streams.specs.Lines.{left}
use Rattle.signtool_acts.proofs.Carried.{not_described_before, refused_before, empty_of_text, unseen_of_text}
use Rattle.signtool_acts.proofs.inputs.described_before.Goals as goal

pub returns-in-Ok-clause-line : goal.returns-in-Ok-clause-line
returns-in-Ok-clause-line g c number is =
    not_described_before c.as_slice.result.now c.in-Ok.text.items (left g.S.Source.remaining c.args.input.now) (left g.S.Source.remaining c.text_before.new.input)
    c.as_slice.ensures.value c.in-Ok.ensures.text (c.described_text.ensures.line number is)

pub returns-in-Ok-clause-empty : goal.returns-in-Ok-clause-empty
returns-in-Ok-clause-empty g c =
    empty_of_text c.as_slice.result.now c.in-Ok.text.items (left g.S.Source.remaining c.args.input.now) (left g.S.Source.remaining c.text_before.new.input)
    c.described_text.result c.as_slice.ensures.value c.in-Ok.ensures.text c.described_text.ensures.empty

pub returns-in-Ok-clause-number : goal.returns-in-Ok-clause-number
returns-in-Ok-clause-number g c number is =
    refused_before c.as_slice.result.now c.in-Ok.text.items (left g.S.Source.remaining c.args.input.now) (left g.S.Source.remaining c.text_before.new.input) number
    c.as_slice.ensures.value c.in-Ok.ensures.text (c.described_text.ensures.number number is)

pub returns-in-Ok-clause-unseen : goal.returns-in-Ok-clause-unseen
returns-in-Ok-clause-unseen g c =
    unseen_of_text c.as_slice.result.now c.in-Ok.text.items (left g.S.Source.remaining c.args.input.now) (left g.S.Source.remaining c.text_before.new.input)
    c.described_text.result c.as_slice.ensures.value c.in-Ok.ensures.text c.described_text.ensures.unseen
