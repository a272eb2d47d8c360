use Rattle.std.proofs.Common.{◌∙◌, ◌++◌, ap, sym, arith}
use Rattle.hex.specs.Hex.{encode_lower}
use Rattle.dms_text_streams.proofs.Digits.{digits_more, no_more_digits}
use Rattle.dms_text_streams.proofs.answers.put_digits.Goals as goal

pub loop-rest-preserved : goal.loop-rest-preserved
loop-rest-preserved c =
    let kept = c.loop-rest.invariant in
    let put = c.put_few_digits.ensures in
    let cut = c.split_at.ensures in record {
      written = digits_more _ _ _ _ _ _ _ kept.written (put.items ∙ ap (λ few. c.loop-rest.text.items ++ encode_lower few) cut.front) cut.back;
      len = omega (arith, kept.len, put.len, cut.front_len, cut.back_len);
      capacity = omega (arith, kept.capacity, put.capacity);
    }

pub returns-clause-items : goal.returns-clause-items
returns-clause-items c = no_more_digits _ _ _ _ (sym c.is_empty.ensures ∙ c.loop-rest-test.false) c.loop-rest.invariant.written
