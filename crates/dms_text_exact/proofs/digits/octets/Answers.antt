use Rattle.std.proofs.Common.{Some, arith, ap, sym, ◌∙◌}
use Rattle.dms_text_exact.proofs.PairLaws.{dash_in, pairs_in, odd_in, long_in}
use Rattle.dms_text_exact.proofs.digits.octets.Goals as goal
use Rattle.dms_text_exact.proofs.digits.octets.Goals.{else-are_even-via-then-are_even+else-word-most, else-are_even-via-else-are_even}

pub returns-then-is_dash-clause-octets : goal.returns-then-is_dash-clause-octets
returns-then-is_dash-clause-octets c =
    ap Some c.new.ensures.items ∙ dash_in c.args.most c.args.word.now (sym c.is_dash.ensures ∙ c.if-is_dash.true)

pub returns-then-word-most-clause-octets : goal.returns-then-word-most-clause-octets
returns-then-word-most-clause-octets c =
    rw (pairs_in c.args.most c.args.word.now (sym c.is_dash.ensures ∙ c.if-is_dash.false) (omega (arith, c.if-word-most.true))) at c.octets_of_pairs.ensures.octets

pub returns-then-word-most-clause-memory : goal.returns-then-word-most-clause-memory
returns-then-word-most-clause-memory c =
    rw (pairs_in c.args.most c.args.word.now (sym c.is_dash.ensures ∙ c.if-is_dash.false) (omega (arith, c.if-word-most.true))) at c.octets_of_pairs.ensures.memory

pub returns-else-are_even-clause-octets : goal.returns-else-are_even-clause-octets
returns-else-are_even-clause-octets c =
    elim c.else-are_even.branch [
      | else-are_even-via-then-are_even+else-word-most w ↦ long_in c.args.most c.args.word.now (omega (arith, w.if-word-most.false))
      | else-are_even-via-else-are_even w ↦
          odd_in c.args.most c.args.word.now (sym c.is_dash.ensures ∙ c.if-is_dash.false) (sym c.are_even.ensures ∙ w.if-are_even.false)
    ]
