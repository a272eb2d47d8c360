use Rattle.std.proofs.Common.{◌≡◌, ℕ, List, Result, ◌+◌, ◌-◌, ◌++◌, ◌∷◌, [], false, true, ap, sym, ◌∙◌, arith}
use Rattle.dms_sign_state.specs.declared.field.SignFieldLack.{SignFieldLack}
use Rattle.dms_sign_state.specs.Fields.{UsedRow}
use Rattle.dms_sign_state.specs.FieldReading.{has_row, rows_at}
use Rattle.dms_sign_state.proofs.RowForms.{with_front, row_more, row_lacks, no_row, all_rows}
use Rattle.dms_sign_state.proofs.reading.rows.Goals as goal

pub returns-then-not-has_row : goal.returns-then-not-has_row
returns-then-not-has_row c =
    let stored = c.args.stored in
    let most = c.most_rows-most.result in
    let not : has_row stored c.loop.least c.loop.rest.now ≡ false = grind (arith, c.if-not-has_row.true, c.has_row.ensures) in
    ap (λ n. rows_at stored n 1 c.args.text.now) (sym c.most_rows-most.ensures.rows)
    ∙ no_row stored c.loop.rows.items most c.loop.counter c.loop.least c.loop.rest.now (rows_at stored most 1 c.args.text.now) c.loop-test.true not c.loop.invariant

pub returns-in_err-row : goal.returns-in_err-row
returns-in_err-row c =
    let stored = c.args.stored in
    let most = c.most_rows-most.result in
    let is : has_row stored c.loop.least c.loop.rest.now ≡ true = grind (arith, c.if-not-has_row.false, c.has_row.ensures) in
    let lacks = row_lacks stored c.in_err-row.field-0.0 c.loop.rows.items most c.loop.counter c.loop.least c.loop.rest.now (rows_at stored most 1 c.args.text.now) c.loop-test.true is
    c.in_err-row.ensures.value c.loop.invariant in
    grind (arith, lacks, c.from_residual.ensures, c.most_rows-most.ensures.rows)

pub loop-preserved : goal.loop-preserved
loop-preserved c =
    let stored = c.args.stored in
    let most = c.most_rows-most.result in
    let row = c.in_ok-row.row in
    let is : has_row stored c.loop.least c.loop.rest.now ≡ true = grind (arith, c.if-not-has_row.false, c.has_row.ensures) in
    let number : c.row.inside.number ≡ row.number = omega (arith, ap (λ (r : UsedRow). r.number) c.row.view_is) in
    let rest : ℕ → Result (List UsedRow × List ℕ) SignFieldLack = λ n. rows_at stored (most - (c.loop.counter + 1)) (n + 1) c.in_ok-row.after.now in
    ap (λ rows. with_front rows (rest c.row.inside.number)) c.in_ok-push.ensures.items
    ∙ ap (λ n. with_front (c.loop.rows.items ++ row ∷ []) (rest n)) number
    ∙ row_more stored c.loop.rows.items most c.loop.counter c.loop.least c.loop.rest.now row c.in_ok-row.after.now (rows_at stored most 1 c.args.text.now) c.loop-test.true is
    c.in_ok-row.ensures.value c.loop.invariant

pub returns : goal.returns
returns c =
    let stored = c.args.stored in
    let most = c.most_rows-most.result in
    ap (λ n. rows_at stored n 1 c.args.text.now) (sym c.most_rows-most.ensures.rows)
    ∙ all_rows stored c.loop.rows.items most c.loop.counter c.loop.least c.loop.rest.now (rows_at stored most 1 c.args.text.now) c.loop-test.false c.loop.invariant
