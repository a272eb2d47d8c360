use Rattle.std.proofs.Common.{inl, inr}
use Rattle.signtool_acts.proofs.inputs.described_text.Goals as goal

pub returns-in-Err-Line-clause-line : goal.returns-in-Err-Line-clause-line
returns-in-Err-Line-clause-line c number is = elim c.in-Err-Line.ensures.line [
  | inl memory ↦ absurd (cc)
  | inr bad ↦ bad
]
