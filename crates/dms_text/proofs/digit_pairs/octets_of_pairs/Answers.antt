use Rattle.std.proofs.Common.{◌∙◌, sym}
use Rattle.dms_text.proofs.DigitPairs.{not_digits}
use Rattle.dms_text.proofs.digit_pairs.octets_of_pairs.Goals as goal

pub returns-else-put_pairs-clause-octets : goal.returns-else-put_pairs-clause-octets
returns-else-put_pairs-clause-octets c = not_digits c.args.word.now (sym c.put_pairs.ensures.digits ∙ c.if-put_pairs.false)
