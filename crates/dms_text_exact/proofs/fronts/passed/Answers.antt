use Rattle.std.proofs.Common.{◌+◌, ◌≤◌, length, arith}
use Rattle.dms_text_exact.proofs.FrontLaws.{passed_more}
use Rattle.dms_text_exact.proofs.fronts.passed.Goals as goal

pub runs-preserved : goal.runs-preserved
runs-preserved c =
    let more : c.runs.place + 64 ≤ length c.args.text.now = omega (arith, c.runs-test.true, c.runs.invariant.0) in (
      more,
      passed_more c.args.end c.runs.place _ c.args.text.now (omega arith) c.runs.invariant.1 c.if-contains.ensures.value,
    )
