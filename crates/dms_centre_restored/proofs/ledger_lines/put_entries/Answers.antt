use Rattle.std.proofs.Common.{ℕ, List, Option, length, ap, ◌∙◌, arith}
use Rattle.std.specs.Borrow.{Bor}
use Rattle.dms_centre_restored.specs.StateReading.{next_found, entries_at}
use Rattle.dms_centre_restored.proofs.Readings.{done}
use Rattle.dms_centre_restored.proofs.LedgersRead.{one_more, no_more, one_lacks, all_done}
use Rattle.dms_centre_restored.proofs.TakenUp.{goes_on_both}
use Rattle.dms_centre_restored.proofs.ledger_lines.put_entries.Goals as goal

pub returns-in_err-number-clause-read : goal.returns-in_err-number-clause-read
returns-in_err-number-clause-read c =
    let lacks =
    one_lacks c.args.order c.args.waits (length c.args.text.now) c.loop.counter c.loop.centre.state c.loop.least c.loop.rest.now
    (entries_at c.args.order c.args.waits (length c.args.text.now) c.args.centre.now.state 0 c.args.text.now) c.loop.invariant.read
    c.in_err-number.field-0.0 c.loop-test.true c.in_err-number.ensures.read in
    grind (arith, lacks, c.from_residual.ensures)

pub returns-in-None-clause-read : goal.returns-in-None-clause-read
returns-in-None-clause-read c =
    let t = c.next_entry.new.centre.state in
    no_more c.args.order c.args.waits (length c.args.text.now) c.loop.counter c.loop.centre.state c.loop.least c.loop.rest.now
    (entries_at c.args.order c.args.waits (length c.args.text.now) c.args.centre.now.state 0 c.args.text.now) c.loop.invariant.read
    t c.loop-test.true (c.in_ok-number.ensures.read ∙ ap (λ (found : Option (ℕ × Bor (List ℕ))). done (t, next_found found)) c.in-None.is)

pub loop-preserved : goal.loop-preserved
loop-preserved c =
    let t = c.next_entry.new.centre.state in
    record {
      goes = goes_on_both c.args.centre.now.state c.loop.centre.state t c.loop.invariant.goes c.in_ok-number.ensures.goes;
      read =
          one_more c.args.order c.args.waits (length c.args.text.now) c.loop.counter c.loop.centre.state c.loop.least c.loop.rest.now
          (entries_at c.args.order c.args.waits (length c.args.text.now) c.args.centre.now.state 0 c.args.text.now) c.loop.invariant.read
          t c.in-Some.number c.in-Some.after.now c.loop-test.true
          (c.in_ok-number.ensures.read ∙ ap (λ (found : Option (ℕ × Bor (List ℕ))). done (t, next_found found)) c.in-Some.is);
    }

pub returns-clause-read : goal.returns-clause-read
returns-clause-read c =
    all_done c.args.order c.args.waits (length c.args.text.now) c.loop.counter c.loop.centre.state c.loop.least c.loop.rest.now
    (entries_at c.args.order c.args.waits (length c.args.text.now) c.args.centre.now.state 0 c.args.text.now) c.loop.invariant.read c.loop-test.false
