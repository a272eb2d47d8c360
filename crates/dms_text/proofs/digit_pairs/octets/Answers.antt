use Rattle.std.proofs.Common.{◌∙◌, sym}
use Rattle.dms_text.proofs.DigitPairs.{not_even}
use Rattle.dms_text.proofs.digit_pairs.octets.Goals as goal

pub returns-else-are_even-clause-octets : goal.returns-else-are_even-clause-octets
returns-else-are_even-clause-octets c =
    not_even c.args.word.now (sym c.is_dash.ensures ∙ c.if-is_dash.false) (sym c.are_even.ensures ∙ c.if-are_even.false)
