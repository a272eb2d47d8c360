use Rattle.std.proofs.Common.{◌*◌, arith, ◌∙◌}
use Rattle.hex.proofs.HexLemmas.{decode_of-even}
use Rattle.hex.proofs.Pairs.{decode_step, decode_done}
use Rattle.dms_text.proofs.ValueTable.{pairs_more}
use Rattle.dms_text_exact.specs.ExactWords.{is_small_digit}
use Rattle.dms_text_exact.proofs.pairs.put_pairs.Goals as goal

pub pairs-preserved : goal.pairs-preserved
pairs-preserved c = (
  pairs_more is_small_digit c.args.word.now c.pairs.index (omega arith) c.in-Some.ensures.small c.pairs.invariant.0,
  decode_step _ _ c.pairs.index _ (omega arith) (omega arith) (c.in-Some.ensures.octet (2 * c.pairs.index)) c.pairs.invariant.1,
)

pub returns-clause-octets : goal.returns-clause-octets
returns-clause-octets c =
    λ _. decode_of-even c.args.word.now (omega arith) ∙ decode_done _ c.pairs.octets c.pairs.index (omega arith) (omega arith) c.pairs.invariant.1
