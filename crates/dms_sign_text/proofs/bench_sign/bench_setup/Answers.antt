use Rattle.dms_sign_text.proofs.BenchRead.{no_wrong_line}
use Rattle.dms_sign_text.proofs.bench_sign.bench_setup.Goals as goal

pub unreachable-requires : goal.unreachable-requires
unreachable-requires c =
    no_wrong_line c.bench_text-text.result.now c.in-Err-Line.field-0 c.in-Err-Line.field-0-0 c.bench_text-text.ensures c.in-Err-Line.field-0-is c.in-Err-Line.ensures.line
