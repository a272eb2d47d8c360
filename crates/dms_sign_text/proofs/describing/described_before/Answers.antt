use Rattle.std.proofs.Common.{inl, inr, sym, subst}
use Rattle.dms_text_streams.specs.Lines.{left}
use Rattle.dms_text_streams.specs.DescriptionText.{TakesDescription}
use Rattle.dms_sign_text.proofs.TextsDescribed.{describes_not}
use Rattle.dms_sign_text.proofs.describing.described_before.Goals as goal

pub returns-in-Err-Line-clause-line : goal.returns-in-Err-Line-clause-line
returns-in-Err-Line-clause-line g c number is = elim c.in-Err-Line.ensures.line [
  | inl memory ↦ absurd (cc)
  | inr bad ↦ describes_not _ _ c.as_slice.result.now (subst (λ l. TakesDescription (left g.S.Source.remaining c.args.input.now) l (left g.S.Source.remaining c.text_before.new.input)) (sym c.as_slice.ensures.value) c.in_ok-text.ensures.text) bad
]
