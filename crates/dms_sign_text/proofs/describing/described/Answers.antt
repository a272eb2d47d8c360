use Rattle.std.proofs.Common.{inl, inr}
use Rattle.dms_sign_text.proofs.TextsDescribed.{not_described}
use Rattle.dms_sign_text.proofs.describing.described.Goals as goal

pub returns-in-Err-Line-clause-line : goal.returns-in-Err-Line-clause-line
returns-in-Err-Line-clause-line c d number is = elim d.in-Err-Line.ensures.line [
  | inl memory ↦ absurd (cc)
  | inr bad ↦ not_described d.as_slice.result.now d.in_ok-octets.octets.items (c.R.Source.remaining d.args.reader.now) d.as_slice.ensures.value d.in_ok-octets.ensures.short d.in_ok-octets.ensures.whole bad
]
