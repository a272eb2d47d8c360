use Rattle.std.proofs.Common.{◌+◌, drop, ap, ◌∙◌, arith}
use Rattle.dms_sign_state.specs.NumberSettings.{all_numbers}
use Rattle.dms_sign_state.specs.FieldReading.{numbers_at}
use Rattle.dms_sign_state.proofs.NumberForms.{one_read, one_lacks, all_read}
use Rattle.dms_sign_state.proofs.reading.numbers.Goals as goal

pub loop-number-preserved : goal.loop-number-preserved
loop-number-preserved c =
    ap (λ settings. numbers_at (drop (c.loop-number.number-index + 1) all_numbers) settings c.in_ok-value.after.now) c.put.ensures
    ∙ one_read c.loop-number.number-index _ c.loop-number.settings c.loop-number.rest.now (numbers_at all_numbers c.args.known c.args.text.now) (omega arith)
    c.loop-number.invariant c.in_ok-value.value c.in_ok-value.after.now c.in_ok-value.ensures

pub returns-in_err-value : goal.returns-in_err-value
returns-in_err-value c =
    let lacks = one_lacks c.in_err-value.field-0.0 c.loop-number.number-index _ c.loop-number.settings c.loop-number.rest.now
    (numbers_at all_numbers c.args.known c.args.text.now) (omega arith) c.loop-number.invariant c.in_err-value.ensures in
    grind (arith, lacks, c.from_residual.ensures)

pub returns : goal.returns
returns c =
    all_read c.loop-number.number-index c.loop-number.settings c.loop-number.rest.now (numbers_at all_numbers c.args.known c.args.text.now) (omega arith)
    c.loop-number.invariant
